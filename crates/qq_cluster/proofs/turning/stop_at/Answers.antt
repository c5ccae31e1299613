use Rattle.qq_cluster_model.specs.Queue.{Stops}
use Rattle.qq_cluster.proofs.Turned.{turns-at}
use Rattle.qq_cluster.proofs.turning.stop_at.Goals as goal

pub returns : goal.returns
returns c =
    turns-at (Stops c.args.node.0) c.args.at c.args.queues.now _ c.stop.new.self c.requires.place
    c.stop.ensures.sound c.stop.ensures.same c.stop.ensures.ok
