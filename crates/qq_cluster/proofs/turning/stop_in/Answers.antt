use Rattle.qq_cluster_model.specs.Queue.{Stops}
use Rattle.qq_cluster.proofs.Turned.{stops-back}
use Rattle.qq_cluster.proofs.turning.stop_in.Goals as goal

pub returns : goal.returns
returns c =
    stops-back (Stops c.args.node.0) c.args.queues.now.items c.deref_mut.result.now c.stop_each.new.queues
    c.args.queues.now.len c.deref_mut.ensures.value c.deref_mut.ensures.len c.stop_each.ensures
