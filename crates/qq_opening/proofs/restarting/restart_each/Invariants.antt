use Rattle.qq_cluster.specs.Nodes.{Served}
use Rattle.qq_opening.specs.Opened.{FirstTo}
use Rattle.qq_opening.proofs.restarting.restart_each.Given as goal

-- the first nodes were restarted
abbrev pub invariant-nodes : goal.invariant-nodes
invariant-nodes g l =
    Served g.D.NodeDisk.facts (FirstTo l.at) l.fn.nodes l.nodes l.fn.told l.told
