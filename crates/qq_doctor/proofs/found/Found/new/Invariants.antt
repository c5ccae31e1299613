use Rattle.std.proofs.Common.{[]}
use Rattle.qq_doctor.specs.Sorted.{AreSorted}
use Rattle.qq_doctor.proofs.found.Found.new.Given as goal

-- so many rows are there, and each is empty
abbrev pub invariant-rows : goal.invariant-rows
invariant-rows l = AreSorted l.at [] l.rows.items
