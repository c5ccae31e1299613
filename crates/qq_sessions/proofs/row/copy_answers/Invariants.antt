use Rattle.std.proofs.Common.{◌≡◌, take}
use Rattle.qq_sessions.proofs.row.copy_answers.Given as goal

-- the answers so far are copied
abbrev pub invariant-answers : goal.invariant-answers
invariant-answers l = l.twin.items ≡ take l.place l.answers.items
