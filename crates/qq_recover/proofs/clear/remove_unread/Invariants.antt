use Rattle.std.proofs.Common.{◌≡◌, false, drop, IsTrue}
use Rattle.qq_disk.specs.Disk.{now}
use Rattle.qq_wal.specs.Running.{StillHolds}
use Rattle.qq_recover.specs.Clearing.{Clears, remove_unread}
use Rattle.qq_recover.proofs.clear.remove_unread.Given as goal

-- the files so far were passed, and without the others the disk comes to the same as without all
abbrev pub invariant-loop-name : goal.invariant-loop-name
invariant-loop-name g l =
    let facts = g.D.NodeDisk.facts in
    record {
      clears : Clears facts l.names l.chain l.fn.wal l.wal;
      going : l.wal.stopped ≡ false;
      rest :
          IsTrue (facts.tells l.fn.wal.disk)
          → remove_unread l.chain (now (facts.past l.wal.disk)) (drop l.name-index l.names)
          ≡ remove_unread l.chain (now (facts.past l.fn.wal.disk)) l.names;
      holds :
          IsTrue (facts.tells l.fn.wal.disk)
          → StillHolds l.fn.wal.queues.items (now (facts.past l.fn.wal.disk)) (now (facts.past l.wal.disk));
    }
