use Rattle.std.proofs.Common.{◌≡◌, drop}
use Rattle.qq_entry.specs.Answers.{answer_after}
use Rattle.qq_entry.proofs.answers.answer_after.Given as goal

-- the rest gives what all give
abbrev pub invariant-rows : goal.invariant-rows
invariant-rows l =
    answer_after l.command l.after.0 (drop l.at l.rows) ≡ answer_after l.command l.after.0 l.rows
