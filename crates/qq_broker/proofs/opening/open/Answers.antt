use Rattle.std.proofs.Common.{ap, subst, sym, ◌∙◌}
use Rattle.qq_base.proofs.Exits.{at_exit}
use Rattle.qq_cluster_run.specs.Runs.{MayNotOpen, ending_of}
use Rattle.qq_broker.specs.Lives.{under}
use Rattle.qq_broker.specs.Nodes.{Meets}
use Rattle.qq_broker.proofs.Beginning.{some-node}
use Rattle.qq_broker.proofs.Opens.{has-opened, no-disk, yard-closes}
use Rattle.qq_broker.proofs.Unopened.{not-opened}
use Rattle.qq_broker.proofs.opening.open.Goals as goal

pub returns-in_err-nodes-clause-cause : goal.returns-in_err-nodes-clause-cause
returns-in_err-nodes-clause-cause g c =
    at_exit _ _ c.from_residual.ensures.1 (yard-closes (under g.Y.Yard.is_given c.args.root.now) g.Y.Disk.NodeDisk.facts _ _ c.args.setup.now c.in_err-nodes.field-0.0
    c.in_err-nodes.ensures.cause)

pub open-requires : goal.open-requires
open-requires g c = (c.args.setup.now.queues, c.in_ok-nodes.ensures.ok.new)

pub returns-then-some-clause-ok : goal.returns-then-some-clause-ok
returns-then-some-clause-ok g c =
    let s = c.args.setup.now in
    has-opened (under g.Y.Yard.is_given c.args.root.now) g.Y.Disk.NodeDisk.facts s c.requires
    (c.clusters_begin_with_new_logs.ensures s c.requires) c.in_ok-nodes.nodes c.in_ok-nodes.ensures.ok c.open.new.nodes
    c.args.told.now c.open.new.told c.in-Ok.some c.if-some.true
    (c.in-Ok.ensures.ok s.queues c.in_ok-nodes.ensures.ok.new)

pub returns-else-some-clause-cause : goal.returns-else-some-clause-cause
returns-else-some-clause-cause g c =
    let given = under g.Y.Yard.is_given c.args.root.now in
    let facts = g.Y.Disk.NodeDisk.facts in
    let before = g.Y.Yard.faults c.args.yard.now in
    let after = g.Y.Yard.faults c.begin.new.yard in
    let s = c.args.setup.now in
    subst (MayNotOpen (Meets given facts before after) s) (sym c.yard_fault.ensures)
    (no-disk given facts s c.requires (c.clusters_begin_with_new_logs.ensures s c.requires) c.in_ok-nodes.nodes
    c.in_ok-nodes.ensures.ok c.open.new.nodes c.args.told.now c.open.new.told before after
    c.in-Ok.some c.if-some.false (some-node s c.requires)
    (c.in-Ok.ensures.ok s.queues c.in_ok-nodes.ensures.ok.new))

pub returns-in-Err-clause-cause : goal.returns-in-Err-clause-cause
returns-in-Err-clause-cause g c =
    let given = under g.Y.Yard.is_given c.args.root.now in
    let facts = g.Y.Disk.NodeDisk.facts in
    let before = g.Y.Yard.faults c.args.yard.now in
    let after = g.Y.Yard.faults c.begin.new.yard in
    let s = c.args.setup.now in
    subst (MayNotOpen (Meets given facts before after) s) (sym (c.ending.ensures ∙ ap ending_of c.from.ensures))
    (not-opened given facts s c.requires (c.clusters_begin_with_new_logs.ensures s c.requires) c.in_ok-nodes.nodes
    c.open.new.nodes c.in_ok-nodes.ensures.ok before after c.in-Err.fault c.restart_stop.result
    c.restart_stop.ensures (c.in-Err.ensures.err s.queues c.in_ok-nodes.ensures.ok.new))
