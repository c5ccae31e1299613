use Rattle.qq_cluster.specs.Nodes.{Served}
use Rattle.qq_cluster.proofs.Pumping.{PumpLeads}
use Rattle.qq_cluster.proofs.nodes.Nodes.pump.Given as goal

-- what the rounds that are left allow, the whole pump does
abbrev pub invariant-rounds : goal.invariant-rounds
invariant-rounds g l =
    Served g.D.NodeDisk.facts (PumpLeads l.left) l.fn.self l.self l.fn.told l.told

abbrev pub decreases-rounds : goal.decreases-rounds
decreases-rounds g l = l.left
