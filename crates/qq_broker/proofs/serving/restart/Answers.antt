use Rattle.std.proofs.Common.{subst, sym}
use Rattle.qq_script_lines.specs.declared.line.Nodes.{Nodes as Which}
use Rattle.qq_script_lines.specs.declared.line.ScriptLine.TheVariants.{Restart}
use Rattle.qq_cluster_run.specs.Named.{AreNodes}
use Rattle.qq_cluster_run.specs.Service.{HasServeCause}
use Rattle.qq_cluster_run.specs.Serving.{setup_in}
use Rattle.qq_broker.specs.Faults.{stop_for}
use Rattle.qq_broker.specs.Nodes.{Meets}
use Rattle.qq_broker.specs.Serving.{IsServed}
use Rattle.qq_broker.proofs.GoingOn.{node-there}
use Rattle.qq_broker.proofs.Refusing.{refused-all, refused-one, restarted-all, restarted-one}
use Rattle.qq_broker.proofs.Stops.{own-stop}
use Rattle.qq_broker.proofs.serving.restart.Goals as goal

pub restart-requires-clause-node : goal.restart-requires-clause-node
restart-requires-clause-node g c =
    node-there c.requires.0 g.D.NodeDisk.facts c.args.setup.now c.requires.1.0 c.args.nodes.now c.in-One.node
    c.requires.1.1 (subst (AreNodes (setup_in c.args.setup.now c.requires.1.0)) c.in-One.is
    c.requires.1.2)

pub returns-in-Ok-clause-ok : goal.returns-in-Ok-clause-ok
returns-in-Ok-clause-ok g c = λ given run h.
    (let facts = g.D.NodeDisk.facts in
    subst (λ (w : Which). IsServed given facts c.args.setup.now run (Restart w) c.restart.new.nodes c.args.told.now
    c.restart.new.told) (sym c.in-One.is)
    (restarted-one given facts c.args.setup.now run c.args.nodes.now c.restart.new.nodes c.args.told.now
    c.restart.new.told h c.in-One.node c.in-Ok.ensures.ok))

pub returns-in-Ok-restart_each-clause-ok : goal.returns-in-Ok-restart_each-clause-ok
returns-in-Ok-restart_each-clause-ok g c = λ given run h.
    (let facts = g.D.NodeDisk.facts in
    subst (λ (w : Which). IsServed given facts c.args.setup.now run (Restart w) c.restart_each.new.nodes
    c.args.told.now c.restart_each.new.told) (sym c.in-All.is)
    (restarted-all given facts c.args.setup.now run c.args.nodes.now c.restart_each.new.nodes c.args.told.now
    c.restart_each.new.told h c.in-Ok-restart_each.ensures.ok))

pub returns-in-Err-clause-cause : goal.returns-in-Err-clause-cause
returns-in-Err-clause-cause g c = λ given run number before after h.
    (let facts = g.D.NodeDisk.facts in
    let s = c.args.setup.now in
    subst (λ (w : Which). HasServeCause (Meets given facts before after) (setup_in s run) run.events number
    (Restart w) (stop_for s c.in-Err.fault)) (sym c.in-One.is)
    (refused-one given facts before after s run c.args.nodes.now c.restart.new.nodes h c.args.told.now c.in-Err.fault
    (stop_for s c.in-Err.fault) (own-stop s c.in-Err.fault) number c.in-One.node
    (subst (AreNodes (setup_in s c.requires.1.0)) c.in-One.is c.requires.1.2) c.in-Err.ensures.err))

pub returns-in-Err-restart_each-clause-cause : goal.returns-in-Err-restart_each-clause-cause
returns-in-Err-restart_each-clause-cause g c = λ given run number before after h.
    (let facts = g.D.NodeDisk.facts in
    let s = c.args.setup.now in
    subst (λ (w : Which). HasServeCause (Meets given facts before after) (setup_in s run) run.events number
    (Restart w) (stop_for s c.in-Err-restart_each.fault)) (sym c.in-All.is)
    (refused-all given facts before after s run c.args.nodes.now c.restart_each.new.nodes h
    c.args.told.now c.in-Err-restart_each.fault (stop_for s c.in-Err-restart_each.fault)
    (own-stop s c.in-Err-restart_each.fault) number c.in-Err-restart_each.ensures.err))
