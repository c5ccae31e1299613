use Rattle.std.proofs.Common.{ap, refl, arith}
use Rattle.std.specs.Prelude.{length}
use Rattle.qq_cluster_model.specs.Queue.{Syncs}
use Rattle.qq_cluster.proofs.Turned.{turning-active, turning-all, turning-below, turning-more, turning-none, turning-sound}
use Rattle.qq_cluster.proofs.nodes.Nodes.mark_synced.Goals as goal

pub active-init : goal.active-init
active-init g c = turning-none (Syncs c.args.node.0) c.args.self.now

pub at-at-requires : goal.at-at-requires
at-at-requires g c =
    omega (
      arith,
      c.len-count.ensures.count,
      ap length (turning-active (Syncs c.args.node.0) c.active.place c.args.self.now c.active.self c.active.invariant),
    )

pub mark_in-requires-clause-place : goal.mark_in-requires-clause-place
mark_in-requires-clause-place g c =
    turning-below (Syncs c.args.node.0) c.active.place c.at-at.result c.args.self.now c.active.self c.requires.within
    (omega (arith, c.len-count.ensures.count)) c.at-at.ensures c.active.invariant

pub mark_in-requires-clause-sound : goal.mark_in-requires-clause-sound
mark_in-requires-clause-sound g c =
    turning-sound (Syncs c.args.node.0) c.active.place c.args.self.now c.active.self c.requires.sound c.active.invariant

pub active-preserved : goal.active-preserved
active-preserved g c =
    turning-more (Syncs c.args.node.0) c.active.place c.at-at.result c.args.self.now c.active.self
    (record c.active.self { queues = c.mark_in.new.queues }) c.len-count.ensures.rising
    (omega (arith, c.len-count.ensures.count)) c.at-at.ensures c.active.invariant refl c.mark_in.ensures

pub returns : goal.returns
returns g c =
    turning-all (Syncs c.args.node.0) c.active.place c.args.self.now c.active.self c.len-count.ensures.rising
    (omega (arith, c.len-count.ensures.count)) c.active.invariant
