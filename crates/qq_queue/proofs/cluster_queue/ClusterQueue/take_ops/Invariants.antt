use Rattle.qq_queue.proofs.Taking.{Handing}
use Rattle.qq_queue.proofs.cluster_queue.ClusterQueue.take_ops.Given as goal

-- so many ops were handed out
abbrev pub invariant-ops : goal.invariant-ops
invariant-ops l = Handing l.node.0 l.count l.taken l.fn.self l.self l.fn.ops.items l.ops.items
