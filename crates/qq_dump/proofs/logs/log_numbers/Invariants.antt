use Rattle.std.proofs.Common.{◌≡◌, ◌++◌, drop}
use Rattle.qq_dump.specs.Listed.{log_numbers}
use Rattle.qq_dump.proofs.logs.log_numbers.Given as goal

abbrev pub invariant-loop-name : goal.invariant-loop-name
invariant-loop-name l = l.numbers.items ++ log_numbers (drop l.name-index l.names) ≡ log_numbers l.names
