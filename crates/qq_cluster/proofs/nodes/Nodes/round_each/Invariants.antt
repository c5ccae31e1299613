use Rattle.qq_cluster_model.specs.Rules.{IsNodeRound}
use Rattle.qq_cluster.specs.Nodes.{LeadsIn, Served, nodes_in}
use Rattle.qq_cluster.proofs.nodes.Nodes.round_each.Given as goal

-- the nodes so far have made their round
abbrev pub invariant-nodes : goal.invariant-nodes
invariant-nodes g l =
    Served g.D.NodeDisk.facts (LeadsIn nodes_in l.at IsNodeRound) l.fn.self l.self l.fn.told l.told
