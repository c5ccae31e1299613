use Rattle.std.proofs.Common.{◌≡◌, ◌≤◌, List, IsTrue}
use Rattle.qq_base.specs.declared.ids.QueueId.{QueueId}
use Rattle.qq_disk.specs.Disk.{now, IsListing}
use Rattle.qq_wal.specs.Running.{top}
use Rattle.qq_recover.specs.Reading.{shown}
use Rattle.qq_recover.specs.ReadOnly.{OnlyReads}
use Rattle.qq_recover.proofs.WayEnds.{OnTheWay}
use Rattle.qq_recover.proofs.walk.chain_ends.Given as goal

abbrev pub invariant-files : goal.invariant-files
invariant-files g l =
    let facts = g.D.NodeDisk.facts in
    record {
      gives :
          IsTrue (facts.tells l.fn.disk) → IsListing (now (facts.past l.fn.disk)) l.names → (queues : List QueueId)
          → OnTheWay queues (shown (now (facts.past l.fn.disk))) l.newest l.ends.items l.number l.good;
      reads : OnlyReads facts l.fn.disk l.disk;
      later : facts.faults l.fn.disk ≤ facts.faults l.disk;
      within : l.number ≤ top;
    }

abbrev pub decreases-files : goal.decreases-files
decreases-files g l = l.number
