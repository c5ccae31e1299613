-- What a member is handed next.
use Rattle.std.proofs.Common.{◌≡◌, Option, Some, None, ap, ◌∙◌}
use Rattle.std.proofs.lemmas.Option.{none-some}
use Rattle.qq_log.specs.Log.{LogState}
use Rattle.qq_log.specs.declared.op.Op.{Op}
use Rattle.qq_raft.specs.declared.server.Server.{Server}
use Rattle.qq_group.specs.Group.{server_by}
use Rattle.qq_group.specs.Handing.{next_at, next_by, returned_at}
use Rattle.qq_group.specs.declared.seat.Seat.{Seat}

pub returned-next : {Q L : Type 0} (log : L → LogState) (op : Op) (o p : Option (Seat Q L)) (seat : Seat Q L)
    (s : Server Q L) → returned_at p ≡ returned_at o → o ≡ Some seat → seat.returned ≡ Some op
    → server_by p ≡ Some s → next_at log p ≡ Some op
returned-next log op o None seat s keeps there returned up = absurd (none-some s up)
returned-next {Q = Q} {L = L} log op o (Some now) seat s keeps there returned up =
    let here : now.returned ≡ Some op = keeps ∙ ap (λ (x : Option (Seat Q L)). returned_at x) there ∙ returned in
    ap (λ (r : Option Op). next_by log r now.server) here
    ∙ ap (λ (x : Option (Server Q L)). next_by log (Some op) x) up
