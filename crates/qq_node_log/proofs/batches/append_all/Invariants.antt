use Rattle.std.proofs.Common.{◌≡◌, false, length}
use Rattle.qq_node_log.specs.Log.{SameLog}
use Rattle.qq_node_log.proofs.Batching.{Begun}
use Rattle.qq_node_log.proofs.batches.append_all.Given as goal

-- so many of what waited are appended, and the others wait
abbrev pub invariant-batches : goal.invariant-batches
invariant-batches g l =
    let facts = g.D.NodeDisk.facts in
    record {
      same : SameLog facts l.fn.wal l.wal;
      going : l.wal.stopped ≡ false;
      begun : Begun facts l.fn.wal l.wal;
    }

abbrev pub decreases-batches : goal.decreases-batches
decreases-batches g l = length l.wal.waiting.items
