use Rattle.qq_cluster.proofs.Stopped.{StoppedTo}
use Rattle.qq_cluster.proofs.nodes.Nodes.stop_each.Given as goal

-- the first nodes have stopped
abbrev pub invariant-nodes : goal.invariant-nodes
invariant-nodes g l =
    StoppedTo g.D.NodeDisk.facts l.at l.fn.self l.self
