use Rattle.std.proofs.Common.{inl, inr, refl}
use Rattle.qq_base.specs.Causes.{Rose}
use Rattle.qq_ports.specs.Streams.{sink_state}
use Rattle.qq_broker.proofs.Dumped.{cut-short}
use Rattle.qq_broker.proofs.dumping.dump_disk.Goals as goal

pub returns-in-Ok-clause-ends : goal.returns-in-Ok-clause-ends
returns-in-Ok-clause-ends g c = let so = c.in-Ok.ensures.ok in (so.0, so.1, inl (refl, so.2))

pub returns-in-Err-Disk-clause-ends : goal.returns-in-Err-Disk-clause-ends
returns-in-Err-Disk-clause-ends g c =
    let sink = sink_state g.O.Sink.written g.O.Sink.faults in
    let disk = g.D.NodeDisk.facts.faults in
    let so = rw c.in-Err-Disk.field-0-is at c.in-Err-Disk.ensures.err in
    let cause = rw c.in-Err-Disk.field-0-is at c.in-Err-Disk.ensures.cause in (
      so.0,
      so.1,
      cut-short c.close.result c.yard_fault.result (Rose (disk c.args.disk.now) (disk c.dump.new.disk)) so.0
          (sink c.args.output.now) (sink c.dump.new.output) (sink c.close.new.output)
          c.in-Err-Disk.ensures.sink so.2 (inl (cause, c.yard_fault.ensures)) c.close.ensures.closes,
    )

pub returns-in-Err-Sink-clause-ends : goal.returns-in-Err-Sink-clause-ends
returns-in-Err-Sink-clause-ends g c =
    let so = rw c.in-Err-Sink.field-0-is at c.in-Err-Sink.ensures.err in
    let cause = rw c.in-Err-Sink.field-0-is at c.in-Err-Sink.ensures.cause in
    (so.0, so.1, inr (inl (refl, cause, so.2)))

pub returns-in-Err-NoMemory-clause-ends : goal.returns-in-Err-NoMemory-clause-ends
returns-in-Err-NoMemory-clause-ends g c =
    let sink = sink_state g.O.Sink.written g.O.Sink.faults in
    let disk = g.D.NodeDisk.facts.faults in
    let so = rw c.in-Err-NoMemory.field-0-is at c.in-Err-NoMemory.ensures.err in (
      so.0,
      so.1,
      cut-short c.close-in-Err-NoMemory.result c.no_memory.result (Rose (disk c.args.disk.now) (disk c.dump.new.disk)) so.0
          (sink c.args.output.now) (sink c.dump.new.output) (sink c.close-in-Err-NoMemory.new.output)
          c.in-Err-NoMemory.ensures.sink so.2 (inr c.no_memory.ensures) c.close-in-Err-NoMemory.ensures.closes,
    )
