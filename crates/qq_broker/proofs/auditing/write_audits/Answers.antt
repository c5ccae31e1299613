use Rattle.std.proofs.Common.{refl, subst, arith}
use Rattle.qq_ports.specs.Streams.{Writes, WritesPart, sink_state}
use Rattle.qq_broker.proofs.Audited.{audit-there, audits-cut, audits-next, audits-rest, audits-start, audits-stop, audits-whole}
use Rattle.qq_broker.proofs.auditing.write_audits.Goals as goal

pub loop-row-init : goal.loop-row-init
loop-row-init g c =
    let disk = g.D.NodeDisk in
    record {
      so = audits-start disk.facts c.args.setup.now c.args.nodes.now
          (sink_state g.O.Sink.written g.O.Sink.faults c.args.output.now) c.clear.new.self.items c.as_slice-rows.result.now
          c.requires.may c.clear.ensures.items c.as_slice-rows.ensures;
      later = omega arith;
    }

pub audit_text-requires : goal.audit_text-requires
audit_text-requires g c =
    let disk = g.D.NodeDisk in
    audit-there disk.facts c.args.setup.now c.args.nodes.now c.as_slice-rows.result.now c.loop-row.row-index
    c.row-item.result (c.as_slice-rows.ensures, c.loop-row-test.true, c.row-item.is)
    c.requires.holds.0 c.requires.holds.1.0 c.requires.holds.1.1

pub loop-row-preserved : goal.loop-row-preserved
loop-row-preserved g c =
    let disk = g.D.NodeDisk in
    let sink = sink_state g.O.Sink.written g.O.Sink.faults in
    record {
      so = audits-next disk.facts c.args.setup.now c.args.nodes.now (sink c.args.output.now) (sink c.loop-row.output)
          (sink c.drain.new.output) c.loop-row.text.items c.audit_text.new.text.items
          c.drain.new.text.items c.as_slice-rows.result.now c.loop-row.row-index c.row-item.result c.requires.may
          (c.as_slice-rows.ensures, c.loop-row-test.true, c.row-item.is) c.loop-row.invariant.so
          (λ setup d st. c.in_default.ensures.ok setup d c.args.nodes.now refl st) c.in_default-drain.ensures.ok;
      later = omega (arith, c.loop-row.invariant.later, c.in_default-drain.ensures.cause.later);
    }

pub returns-in-Err-clause-err : goal.returns-in-Err-clause-err
returns-in-Err-clause-err g c =
    let disk = g.D.NodeDisk in
    let sink = sink_state g.O.Sink.written g.O.Sink.faults in
    audits-stop disk.facts c.args.setup.now c.args.nodes.now (sink c.args.output.now) (sink c.loop-row.output)
    c.loop-row.text.items c.as_slice-rows.result.now c.loop-row.row-index
    c.loop-row.invariant.so

pub returns-in-Err-drain-clause-err : goal.returns-in-Err-drain-clause-err
returns-in-Err-drain-clause-err g c =
    let disk = g.D.NodeDisk in
    let sink = sink_state g.O.Sink.written g.O.Sink.faults in
    audits-cut disk.facts c.args.setup.now c.args.nodes.now (sink c.args.output.now) (sink c.loop-row.output)
    (sink c.drain.new.output) c.loop-row.text.items c.audit_text.new.text.items
    c.as_slice-rows.result.now c.loop-row.row-index c.row-item.result c.requires.may
    (c.as_slice-rows.ensures, c.loop-row-test.true, c.row-item.is) c.loop-row.invariant.so
    (λ setup d st. c.in_default.ensures.ok setup d c.args.nodes.now refl st) c.in-Err-drain.ensures.err

pub returns-in-Ok-clause-ok : goal.returns-in-Ok-clause-ok
returns-in-Ok-clause-ok g c =
    let disk = g.D.NodeDisk in
    let sink = sink_state g.O.Sink.written g.O.Sink.faults in
    audits-whole disk.facts c.args.setup.now c.args.nodes.now (sink c.args.output.now) (sink c.loop-row.output)
    (sink c.write_all.new.out) c.loop-row.text.items c.as_slice-rows.result.now
    c.loop-row.row-index (omega (arith, c.loop-row-test.false)) c.loop-row.invariant.so
    (subst (Writes (sink c.loop-row.output) (sink c.write_all.new.out)) c.deref.ensures.value c.in-Ok.ensures.ok)

pub returns-in-Err-write_all-clause-err : goal.returns-in-Err-write_all-clause-err
returns-in-Err-write_all-clause-err g c =
    let disk = g.D.NodeDisk in
    let sink = sink_state g.O.Sink.written g.O.Sink.faults in
    audits-rest disk.facts c.args.setup.now c.args.nodes.now (sink c.args.output.now) (sink c.loop-row.output)
    (sink c.write_all.new.out) c.loop-row.text.items c.as_slice-rows.result.now
    c.loop-row.row-index (omega (arith, c.loop-row-test.false)) c.loop-row.invariant.so
    (subst (WritesPart (sink c.loop-row.output) (sink c.write_all.new.out)) c.deref.ensures.value
    c.in-Err-write_all.ensures.err)
