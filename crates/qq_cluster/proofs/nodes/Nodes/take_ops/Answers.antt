use Rattle.std.proofs.Common.{ap, refl, arith}
use Rattle.std.specs.Prelude.{length}
use Rattle.qq_cluster_model.specs.Queue.{Writes}
use Rattle.qq_cluster.proofs.Turned.{taking-all, taking-more, taking-none, turning-active, turning-below, turning-sound}
use Rattle.qq_cluster.proofs.nodes.Nodes.take_ops.Goals as goal

pub active-init : goal.active-init
active-init g c = taking-none c.args.node.0 c.args.self.now c.new-ops.result.items c.new-ops.ensures.items

pub at-at-requires : goal.at-at-requires
at-at-requires g c =
    omega (
      arith,
      c.len-count.ensures.count,
      ap length (turning-active (Writes c.args.node.0) c.active.place c.args.self.now c.active.self c.active.invariant.turning),
    )

pub take_in-requires-clause-place : goal.take_in-requires-clause-place
take_in-requires-clause-place g c =
    turning-below (Writes c.args.node.0) c.active.place c.at-at.result c.args.self.now c.active.self c.requires.within
    (omega (arith, c.len-count.ensures.count)) c.at-at.ensures c.active.invariant.turning

pub take_in-requires-clause-sound : goal.take_in-requires-clause-sound
take_in-requires-clause-sound g c =
    turning-sound (Writes c.args.node.0) c.active.place c.args.self.now c.active.self c.requires.sound
    c.active.invariant.turning

pub active-preserved : goal.active-preserved
active-preserved g c =
    taking-more c.args.node.0 c.active.place c.at-at.result c.args.self.now c.active.self
    (record c.active.self { queues = c.take_in.new.queues }) c.active.ops.items c.take_in.new.ops.items
    c.len-count.ensures.rising c.requires.within (omega (arith, c.len-count.ensures.count)) c.at-at.ensures
    c.active.invariant refl c.in_ok-take_in.ensures.ok c.in_ok-take_in.ensures.taken c.in_ok-take_in.ensures.may

pub returns-clause-ok : goal.returns-clause-ok
returns-clause-ok g c =
    taking-all c.args.node.0 c.active.place c.args.self.now c.active.self c.active.ops.items c.len-count.ensures.rising
    (omega (arith, c.len-count.ensures.count)) c.active.invariant
