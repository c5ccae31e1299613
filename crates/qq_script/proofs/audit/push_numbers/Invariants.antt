use Rattle.std.proofs.Common.{◌≡◌, ◌++◌, drop}
use Rattle.qq_script.specs.Audit.{comma_before, numbers_text}
use Rattle.qq_script.proofs.audit.push_numbers.Given as goal

-- what stands so far, and the numbers left, are the whole text
abbrev pub invariant-loop-number : goal.invariant-loop-number
invariant-loop-number l =
    l.out.items ++ comma_before (drop l.number-index l.rest) ≡ l.fn.out.items ++ numbers_text l.numbers
