use Rattle.std.proofs.Common.{inr}
use Rattle.qq_ports.specs.Streams.{sink_state, source_state}
use Rattle.qq_cluster_run.proofs.Beginnings.{behind-made}
use Rattle.qq_broker.specs.Lives.{under}
use Rattle.qq_broker.specs.Takers.{RunClaims}
use Rattle.qq_broker.proofs.program.begin_script.Goals as goal

pub returns-in-Ok-clause-ends : goal.returns-in-Ok-clause-ends
returns-in-Ok-clause-ends g c =
    let disk = g.Y.Disk.NodeDisk in
    let source = source_state g.I.Source.left g.I.Source.faults in
    let sink = sink_state g.O.Sink.written g.O.Sink.faults in
    let given = under g.Y.Yard.is_given c.args.root.now in
    inr (inr (behind-made c.open_script.result c.args.setup.now (source c.args.input.now) (source c.open_script.new.input)
    (sink c.args.output.now) (sink c.write_made.new.output) (sink c.open_script.new.output) _
    (RunClaims given disk.facts c.args.takers.now c.open_script.new.takers) c.write_made.ensures.later
    c.in-Ok.ensures.ok c.open_script.ensures.ends))
