use Rattle.std.proofs.Common.{◌≡◌, ◌≤◌, ◌<◌, ◌^◌, drop, IsTrue}
use Rattle.qq_disk.specs.Disk.{now}
use Rattle.qq_recover.specs.Newest.{has_log, newest_of}
use Rattle.qq_recover.specs.Reading.{shown}
use Rattle.qq_recover.specs.ReadOnly.{OnlyReads}
use Rattle.qq_recover.proofs.read.newest_file.Given as goal

abbrev pub invariant-loop-name : goal.invariant-loop-name
invariant-loop-name g l =
    let facts = g.D.NodeDisk.facts in
    record {
      newest :
          IsTrue (facts.tells l.fn.disk)
          → newest_of (has_log (shown (now (facts.past l.fn.disk)))) l.newest (drop l.name-index l.names)
          ≡ newest_of (has_log (shown (now (facts.past l.fn.disk)))) 0 l.names;
      reads : OnlyReads facts l.fn.disk l.disk;
      later : facts.faults l.fn.disk ≤ facts.faults l.disk;
      within : l.newest < 2 ^ 64;
    }
