use Rattle.std.proofs.lemmas.Option.{IfSome_then}
use Rattle.qq_ports.specs.Streams.{sink_state, streams}
use Rattle.qq_cluster_run.proofs.Closings.{Rose_earlier}
use Rattle.qq_cluster_run.proofs.Looping.{served_done, served_breaks}
use Rattle.qq_broker.specs.Takers.{HoldsAll, RunClaims}
use Rattle.qq_broker.proofs.program.serve_script.Goals as goal

pub write_audits-requires-clause-holds : goal.write_audits-requires-clause-holds
write_audits-requires-clause-holds g c =
    let so = c.in-Ok.ensures.ok c.requires.opened.0 c.requires.opened.1.0 c.requires.opened.1.1 in
    (c.requires.opened.0, (so.run, so.stands.holds))

pub returns-in-Ok-write_audits-clause-ok : goal.returns-in-Ok-write_audits-clause-ok
returns-in-Ok-write_audits-clause-ok g c = λ given first opened.
    (let disk = g.Y.Disk.NodeDisk in
    let at = streams g.I.Source.left g.I.Source.faults g.O.Sink.written g.O.Sink.faults in
    let sink = sink_state g.O.Sink.written g.O.Sink.faults in
    let s = c.args.setup.now in
    let so = c.in-Ok.ensures.ok given first opened in
    served_done (RunClaims given disk.facts first c.serve_lines.new.told.takers) s
    (HoldsAll given disk.facts s first c.serve_lines.new.nodes c.serve_lines.new.told.takers)
    (at c.args.input.now c.args.output.now) (at c.serve_lines.new.input c.write_audits.new.output)
    (sink c.serve_lines.new.output) so
    (c.in-Ok-write_audits.ensures.ok given so.run so.stands.holds) so.stands.seen)

pub returns-in-Err-Failed-clause-cause : goal.returns-in-Err-Failed-clause-cause
returns-in-Err-Failed-clause-cause g c = λ given first opened.
    (let disk = g.Y.Disk.NodeDisk in
    let at = streams g.I.Source.left g.I.Source.faults g.O.Sink.written g.O.Sink.faults in
    let sink = sink_state g.O.Sink.written g.O.Sink.faults in
    let faults = g.O.Sink.faults in
    let s = c.args.setup.now in
    let so = c.in-Ok.ensures.ok given first opened in
    let cause = rw c.in-Err-Failed.field-0-is at c.in-Err-Failed.ensures.cause in (
      Rose_earlier (faults c.args.output.now) (faults c.serve_lines.new.output) (faults c.write_audits.new.output)
          c.in-Ok.ensures.later.1 cause,
      served_breaks (RunClaims given disk.facts first c.serve_lines.new.told.takers) s
          (HoldsAll given disk.facts s first c.serve_lines.new.nodes c.serve_lines.new.told.takers)
          (at c.args.input.now c.args.output.now) (at c.serve_lines.new.input c.write_audits.new.output)
          (sink c.serve_lines.new.output) so (c.in-Err-Failed.ensures.err given so.run so.stands.holds) so.stands.seen,
    ))

pub returns-in-Ok-clause-cause : goal.returns-in-Ok-clause-cause
returns-in-Ok-clause-cause g c = λ given first opened.
    (let disk = g.Y.Disk.NodeDisk in
    let at = streams g.I.Source.left g.I.Source.faults g.O.Sink.written g.O.Sink.faults in
    let sink = sink_state g.O.Sink.written g.O.Sink.faults in
    let s = c.args.setup.now in
    let so = c.in-Ok.ensures.ok given first opened in
    IfSome_then (g.I.Source.left c.args.input.now)
    (served_breaks (RunClaims given disk.facts first c.serve_lines.new.told.takers) s
    (HoldsAll given disk.facts s first c.serve_lines.new.nodes c.serve_lines.new.told.takers)
    (at c.args.input.now c.args.output.now) (at c.serve_lines.new.input c.write_audits.new.output)
    (sink c.serve_lines.new.output) so (c.in-Err-NoMemory.ensures.err given so.run so.stands.holds) so.stands.seen)
    (λ bytes cut. cut.breaks))
