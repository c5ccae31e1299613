-- What a group promises, of its code.
use Rattle.std.proofs.Common.{◌≡◌, ℕ, Option, Some, None, subst}
use Rattle.std.specs.Prelude.{slice_get}
use Rattle.std.proofs.lemmas.Option.{none-some}
use Rattle.qq_log.specs.Log.{LogState}
use Rattle.qq_raft_core.specs.Raft.{server_of}
use Rattle.qq_raft.specs.declared.server.Server.{Server}
use Rattle.qq_raft_model.specs.Group.{Group as GroupState, Seat as SeatState}
use Rattle.qq_raft_model.specs.Promises.{IsUp}
use Rattle.qq_group.specs.Group.{IsSeat, IsSeatBy, Represents, server_at, server_by}
use Rattle.qq_group.specs.declared.group.Group.{Group}
use Rattle.qq_group.specs.declared.seat.Seat.{Seat}

seat-up : {Q L : Type 0} (log : L → LogState) (state : SeatState) (s : Server Q L) (o : Option (Seat Q L))
    → IsSeat log state o → server_by o ≡ Some s → state.server ≡ Some (server_of log s.raft)
seat-up log state s None is up = absurd (none-some s up)
seat-up log state s (Some seat) is up = (subst (IsSeatBy log state seat) up is).0

-- a server of the group is up in each state that the group stands for
pub up-in : {Q L : Type 0} (log : L → LogState) (g : GroupState) (k : ℕ) (s : Server Q L) (group : Group Q L)
    → Represents log g group → server_at k group ≡ Some s → IsUp g k (server_of log s.raft)
up-in log g k s group r up = seat-up log (g.seat k) s (slice_get group.seats.items k) (r.seats k) up
