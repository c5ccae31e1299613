use Rattle.qq_cluster_model.specs.Queue.{Syncs}
use Rattle.qq_cluster.proofs.Turned.{turns-back}
use Rattle.qq_cluster.proofs.turning.mark_in.Goals as goal

pub returns : goal.returns
returns c =
    turns-back (Syncs c.args.node.0) c.args.at c.args.queues.now.items c.deref_mut.result.now c.mark_at.new.queues
    c.args.queues.now.len c.deref_mut.ensures.value c.deref_mut.ensures.len c.mark_at.ensures
