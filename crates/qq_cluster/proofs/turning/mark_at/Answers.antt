use Rattle.qq_cluster_model.specs.Queue.{Syncs}
use Rattle.qq_cluster.proofs.Turned.{turns-at}
use Rattle.qq_cluster.proofs.turning.mark_at.Goals as goal

pub returns : goal.returns
returns c =
    turns-at (Syncs c.args.node.0) c.args.at c.args.queues.now _ c.synced.new.self c.requires.place
    c.synced.ensures.sound c.synced.ensures.same c.synced.ensures.ok
