use Rattle.std.proofs.Common.{subst, sym}
use Rattle.qq_script_lines.specs.declared.line.Nodes.{Nodes as Which}
use Rattle.qq_script_lines.specs.declared.line.ScriptLine.TheVariants.{Crash}
use Rattle.qq_cluster_run.specs.Named.{AreNodes}
use Rattle.qq_cluster_run.specs.Serving.{setup_in}
use Rattle.qq_broker.specs.Serving.{IsServed}
use Rattle.qq_broker.proofs.Crashes.{all-served, one-served}
use Rattle.qq_broker.proofs.Stops.{crash-caused}
use Rattle.qq_broker.proofs.serving.crash.Goals as goal

pub crash_one-requires-clause-holds : goal.crash_one-requires-clause-holds
crash_one-requires-clause-holds g c = λ lifetimes bounds. (
  c.requires.0,
  (
    c.args.setup.now,
    (
      c.requires.1.0,
      c.requires.1.1,
      subst (AreNodes (setup_in c.args.setup.now c.requires.1.0)) c.in-One.is c.requires.1.2,
    ),
  ),
)

pub returns-in-Ok-clause-ok : goal.returns-in-Ok-clause-ok
returns-in-Ok-clause-ok g c = λ given run told h.
    (let facts = g.Y.Disk.NodeDisk.facts in
    subst (λ (w : Which). IsServed given facts c.args.setup.now run (Crash w c.args.image.now) c.crash_one.new.nodes
    told told) (sym c.in-One.is)
    (one-served given facts c.args.setup.now run c.crash_one.new.nodes c.args.image.now told c.in-One.node
    (c.in-Ok.ensures.ok given c.args.setup.now run h)))

pub returns-in-Ok-crash_first-clause-ok : goal.returns-in-Ok-crash_first-clause-ok
returns-in-Ok-crash_first-clause-ok g c = λ given run told h.
    (let facts = g.Y.Disk.NodeDisk.facts in
    subst (λ (w : Which). IsServed given facts c.args.setup.now run (Crash w c.args.image.now) c.crash_first.new.nodes
    told told) (sym c.in-All.is)
    (all-served given facts c.args.setup.now run c.crash_first.new.nodes c.args.image.now told
    (c.in-Ok-crash_first.ensures.ok given c.args.setup.now run h)))

pub returns-in-Err-clause-cause : goal.returns-in-Err-clause-cause
returns-in-Err-clause-cause g c = λ given run number.
    (let disk = g.Y.Disk.NodeDisk in
    crash-caused given disk.facts (g.Y.Yard.faults c.args.yard.now) (g.Y.Yard.faults c.crash_one.new.yard)
    c.args.setup.now run number c.args.which c.args.image.now c.in-Err.fault
    c.crash_fault.result c.crash_fault.ensures c.in-Err.ensures.cause.cause)

pub returns-in-Err-crash_first-clause-cause : goal.returns-in-Err-crash_first-clause-cause
returns-in-Err-crash_first-clause-cause g c = λ given run number.
    (let disk = g.Y.Disk.NodeDisk in
    crash-caused given disk.facts (g.Y.Yard.faults c.args.yard.now) (g.Y.Yard.faults c.crash_first.new.yard)
    c.args.setup.now run number c.args.which c.args.image.now
    c.in-Err-crash_first.fault c.crash_fault-in-Err-crash_first.result c.crash_fault-in-Err-crash_first.ensures
    c.in-Err-crash_first.ensures.cause.cause)
