use Rattle.qq_cluster_model.specs.Queue.{Syncs}
use Rattle.qq_cluster.proofs.Turned.{TurningTo}
use Rattle.qq_cluster.proofs.nodes.Nodes.mark_synced.Given as goal

-- so many of the active queues are marked
abbrev pub invariant-active : goal.invariant-active
invariant-active g l = TurningTo (Syncs l.node.0) l.place l.fn.self l.self
