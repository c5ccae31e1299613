use Rattle.qq_cluster.proofs.Turned.{TakingTo}
use Rattle.qq_cluster.proofs.nodes.Nodes.take_ops.Given as goal

-- so many of the active queues have handed out what waits
abbrev pub invariant-active : goal.invariant-active
invariant-active g l =
    TakingTo g.D.NodeDisk.facts l.node.0 l.place l.fn.self l.self l.ops.items
