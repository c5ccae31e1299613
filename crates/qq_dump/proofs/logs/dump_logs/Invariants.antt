use Rattle.std.proofs.Common.{◌≡◌, ◌≤◌, take, IsTrue}
use Rattle.qq_disk.specs.Disk.{now}
use Rattle.qq_dump.proofs.Written.{Wrote}
use Rattle.qq_dump.proofs.logs.dump_logs.Given as goal

-- the texts of the files up to here were written, and the disk is as before
abbrev pub invariant-loop-number : goal.invariant-loop-number
invariant-loop-number g l =
    let disk = g.D.NodeDisk in
    let sink = g.O.Sink in
    record {
      so :
          Wrote (disk.facts.tells l.fn.disk) (now (disk.facts.past l.fn.disk)) (take l.number-index l.numbers)
          (sink.written l.fn.output) (sink.written l.output);
      same : IsTrue (disk.facts.tells l.fn.disk) → disk.facts.past l.disk ≡ disk.facts.past l.fn.disk;
      told : disk.facts.tells l.disk ≡ disk.facts.tells l.fn.disk;
      disk_later : disk.facts.faults l.fn.disk ≤ disk.facts.faults l.disk;
      sink_later : sink.faults l.fn.output ≤ sink.faults l.output;
    }
