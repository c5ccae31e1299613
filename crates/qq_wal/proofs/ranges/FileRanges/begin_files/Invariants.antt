use Rattle.std.proofs.Common.{◌≡◌, nat_cmp, take}
use Rattle.std.specs.BTreeMap.{get}
use Rattle.qq_wal.specs.Ranges.{begin_files, ranges_in}
use Rattle.qq_wal.proofs.ranges.FileRanges.begin_files.Given as goal

-- the first queues go on in the file
abbrev pub invariant-queues : goal.invariant-queues
invariant-queues l = get nat_cmp l.rows ≡ begin_files l.file (take l.queue-index l.queues) (ranges_in l.self)
