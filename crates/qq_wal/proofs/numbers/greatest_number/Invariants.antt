use Rattle.std.proofs.Common.{◌≡◌, take}
use Rattle.qq_wal.specs.Numbers.{greatest_number}
use Rattle.qq_wal.proofs.numbers.greatest_number.Given as goal

-- that of the first names
abbrev pub invariant-names : goal.invariant-names
invariant-names l = l.greatest ≡ greatest_number l.kind (take l.name-index l.names)
