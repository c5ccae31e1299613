use Rattle.std.proofs.Common.{◌≡◌, length}
use Rattle.qq_wal.specs.Notices.{synced_in}
use Rattle.qq_wal.proofs.marks.synced_in.Given as goal

-- the others decide
abbrev pub invariant-rest : goal.invariant-rest
invariant-rest l = synced_in l.rest l.queue ≡ synced_in l.marks l.queue

abbrev pub decreases-rest : goal.decreases-rest
decreases-rest l = length l.rest
