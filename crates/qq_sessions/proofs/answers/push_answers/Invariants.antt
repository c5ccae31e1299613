use Rattle.std.proofs.Common.{◌≡◌, ◌++◌, take}
use Rattle.qq_sessions.specs.Named.{answers_indices}
use Rattle.qq_sessions.proofs.answers.push_answers.Given as goal

-- those of the answers so far
abbrev pub invariant-answers : goal.invariant-answers
invariant-answers l =
    l.indices.items ≡ l.initial.indices.items ++ answers_indices (take l.place l.kept.items)
