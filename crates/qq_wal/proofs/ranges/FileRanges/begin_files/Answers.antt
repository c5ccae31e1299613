use Rattle.std.proofs.Common.{nat_cmp, arith}
use Rattle.std.specs.BTreeMap.{get}
use Rattle.qq_wal.specs.Ranges.{ranges_in}
use Rattle.qq_wal.proofs.Beginning.{begin-more}
use Rattle.qq_wal.proofs.ranges.FileRanges.begin_files.Goals as goal

pub queues-preserved : goal.queues-preserved
queues-preserved c =
    begin-more c.args.file (ranges_in c.args.self.now) c.args.queues.now c.queues.queue-index _
    (get nat_cmp c.queues.rows) (get nat_cmp c.begin_queue.new.rows) (omega arith) c.in_ok-begin_queue.ensures.ok
    c.queues.invariant
