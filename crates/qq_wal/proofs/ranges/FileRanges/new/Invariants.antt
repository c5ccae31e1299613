use Rattle.std.proofs.Common.{◌≡◌, nat_cmp, take}
use Rattle.std.specs.BTreeMap.{get}
use Rattle.qq_wal.specs.Ranges.{ranges_of}
use Rattle.qq_wal.proofs.ranges.FileRanges.new.Given as goal

-- the first queues are listed
abbrev pub invariant-queues : goal.invariant-queues
invariant-queues l = get nat_cmp l.rows ≡ ranges_of (take l.queue-index l.queues)
