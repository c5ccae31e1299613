use Rattle.std.proofs.Common.{◌≡◌, length}
use Rattle.qq_wal.specs.Marks.{is_rising, numbers_of}
use Rattle.qq_wal.proofs.marks.is_rising.Given as goal

-- what is left rises where all do
abbrev pub invariant-rest : goal.invariant-rest
invariant-rest l = is_rising (numbers_of l.rest) ≡ is_rising (numbers_of l.fn.queues)

abbrev pub decreases-rest : goal.decreases-rest
decreases-rest l = length l.rest
