use Rattle.std.proofs.Common.{◌≡◌, length}
use Rattle.qq_wal.specs.Marks.{carry_for}
use Rattle.qq_wal.proofs.marks.carry_for.Given as goal

-- the others decide
abbrev pub invariant-rest : goal.invariant-rest
invariant-rest l = carry_for l.rest l.queue ≡ carry_for l.carries l.queue

abbrev pub decreases-rest : goal.decreases-rest
decreases-rest l = length l.rest
