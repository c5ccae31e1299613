use Rattle.std.proofs.Common.{◌≡◌, ◌≤◌, List, drop, length, map, take, IsTrue}
use Rattle.std.specs.List.{AllByRecursion}
use Rattle.qq_base.specs.declared.ids.QueueId.{QueueId}
use Rattle.qq_disk.specs.Disk.{now}
use Rattle.qq_wal.specs.Ranges.{ranges_in}
use Rattle.qq_recover.specs.declared.file.ChainFile.{ChainFile}
use Rattle.qq_recover.specs.Ends.{IsReadAgain, end_of_file}
use Rattle.qq_recover.specs.Entries.{find_files}
use Rattle.qq_recover.specs.Reading.{shown}
use Rattle.qq_recover.specs.ReadOnly.{OnlyReads}
use Rattle.qq_recover.specs.Replay.{replay_files}
use Rattle.qq_recover.specs.Table.{lanes_of, Lists}
use Rattle.qq_recover.proofs.replay.replay_chain.Given as goal

-- the files that were passed are the last, and with the others they come to what all come to
abbrev pub invariant-files : goal.invariant-files
invariant-files g l =
    let facts = g.D.NodeDisk.facts in
    record {
      within : l.left ≤ length l.chain;
      lists : (queues : List QueueId) → Lists queues l.fn.table → Lists queues l.table;
      gives :
          IsTrue (facts.tells l.fn.disk) → (queues : List QueueId) (files : List ChainFile) → Lists queues l.fn.table
          → map end_of_file files ≡ l.chain
          → AllByRecursion (IsReadAgain queues (shown (now (facts.past l.fn.disk)))) files
          → replay_files queues (take l.left files) (lanes_of l.table)
          ≡ replay_files queues files (lanes_of l.fn.table);
      ranges :
          IsTrue (facts.tells l.fn.disk) → (queues : List QueueId) (files : List ChainFile)
          → map end_of_file files ≡ l.chain
          → AllByRecursion (IsReadAgain queues (shown (now (facts.past l.fn.disk)))) files
          → ranges_in l.ranges ≡ find_files (drop l.left files) (ranges_in l.fn.ranges);
      reads : OnlyReads facts l.fn.disk l.disk;
      later : facts.faults l.fn.disk ≤ facts.faults l.disk;
    }

abbrev pub decreases-files : goal.decreases-files
decreases-files g l = l.left
