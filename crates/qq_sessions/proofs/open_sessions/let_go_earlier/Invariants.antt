use Rattle.std.proofs.Common.{filter, take}
use Rattle.qq_model.specs.Gate.{is_giving_way}
use Rattle.qq_live.specs.Indices.{Removes, HasRoomFor}
use Rattle.qq_sessions.specs.Named.{kept_indices}
use Rattle.qq_sessions.proofs.open_sessions.let_go_earlier.Given as goal

-- of the sessions so far, the messages of those that give way are let go
abbrev pub invariant-rows : goal.invariant-rows
invariant-rows l =
    Removes (kept_indices (filter (is_giving_way l.session) (take l.place l.opened.rows)))
    l.initial.named.indices l.named.indices
    × (HasRoomFor 1 l.initial.named → HasRoomFor 1 l.named)
