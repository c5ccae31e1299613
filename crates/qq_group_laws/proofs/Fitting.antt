-- A message of a group fits the server that it reaches.
use Rattle.std.proofs.Common.{◌≡◌, true, Option, Some, None, sym, ap, subst, ◌∙◌}
use Rattle.std.specs.Prelude.{All, slice_get}
use Rattle.std.proofs.lemmas.Bool.{and_from}
use Rattle.std.proofs.lemmas.List.Elements.{recursion_from_All}
use Rattle.std.proofs.lemmas.Option.{none-some}
use Rattle.qq_log.specs.Log.{LogState}
use Rattle.qq_raft_core.specs.Ends.{HasEnds, IsSendable}
use Rattle.qq_raft_core.specs.Fits.{fits}
use Rattle.qq_raft_core.specs.Raft.{server_of}
use Rattle.qq_raft_protocol.specs.Facts.{In}
use Rattle.qq_raft_msg.specs.Rpc.{envelope}
use Rattle.qq_raft_msg.specs.declared.rpc.Rpc.{Rpc}
use Rattle.qq_raft_model.specs.State.{Server as Raft}
use Rattle.qq_raft.specs.declared.server.Server.{Server}
use Rattle.qq_raft_model.specs.Group.{Group as GroupState, Seat as SeatState}
use Rattle.qq_group.specs.Group.{IsReached, IsSeat, IsSeatBy, Represents, server_at, server_by}
use Rattle.qq_group.specs.declared.group.Group.{Group}
use Rattle.qq_group.specs.declared.seat.Seat.{Seat}
use Rattle.qq_group_laws.proofs.Groups.{IsBetweenMembers, IsForServer, all-in, from-opened, received}

fits-is : (s : Raft) (rpc : Rpc) → IsForServer rpc s → HasEnds rpc → fits s rpc ≡ true
unfolding fits
fits-is s rpc f e =
    and_from _ _ (and_from _ _ (and_from _ _ (and_from _ _ f.to f.from) e.term) e.indices) e.size

some-is : {A : Type 0} (x y : A) → Some x ≡ Some y → x ≡ y
some-is x y e = cc

seat-up : {Q L : Type 0} (log : L → LogState) (state : SeatState) (seat : Seat Q L) (s : Server Q L)
    (o : Option (Server Q L)) → o ≡ Some s → IsSeatBy log state seat o
    → state.server ≡ Some (server_of log s.raft)
seat-up log state seat s None is at = absurd (none-some s is)
seat-up log state seat s (Some t) is at =
    at.0 ∙ ap (λ (u : Server _ _). Some (server_of log u.raft)) (some-is t s is)

by-seat : {Q L : Type 0} (log : L → LogState) (state : SeatState) (s : Server Q L) (o : Option (Seat Q L))
    → server_by o ≡ Some s → IsSeat log state o → state.server ≡ Some (server_of log s.raft)
by-seat log state s None is at = absurd (none-some s is)
by-seat log state s (Some seat) is at = seat-up log state seat s seat.server is at

pub message-fits : {Q L : Type 0} (log : L → LogState) (g : GroupState) (group : Group Q L) (rpc : Rpc)
    (s : Server Q L) → IsReached g → Represents log g group → All IsSendable group.bag → In rpc group.bag
    → server_at (envelope rpc).to.0 group ≡ Some s → fits (server_of log s.raft) rpc ≡ true
message-fits log g group rpc s reached r all here up =
    let k = (envelope rpc).to.0 in
    let fine : IsBetweenMembers reached.start.nodes g =
    subst (IsBetweenMembers reached.start.nodes) (sym reached.is)
    (from-opened reached.start reached.whole reached.events reached.opened) in
    let sent : IsSendable rpc = all-in IsSendable rpc group.bag (recursion_from_All IsSendable group.bag all) here in
    fits-is (server_of log s.raft) rpc
    (received g rpc (server_of log s.raft) fine (subst (λ bag. In rpc bag) (sym r.bag) here)
    (by-seat log (g.seat k) s (slice_get group.seats.items k) up (r.seats k))) sent.1
