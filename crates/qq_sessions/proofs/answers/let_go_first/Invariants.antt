use Rattle.std.proofs.Common.{take}
use Rattle.qq_live.specs.Indices.{Removes, HasRoomFor}
use Rattle.qq_sessions.specs.Named.{answers_indices}
use Rattle.qq_sessions.proofs.answers.let_go_first.Given as goal

-- the messages of the answers so far are let go
abbrev pub invariant-answers : goal.invariant-answers
invariant-answers l =
    Removes (answers_indices (take l.place l.kept.items)) l.initial.named.indices l.named.indices
    × (HasRoomFor 1 l.initial.named → HasRoomFor 1 l.named)
