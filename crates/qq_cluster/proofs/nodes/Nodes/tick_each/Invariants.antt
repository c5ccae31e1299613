use Rattle.qq_cluster_model.specs.Cluster.{Setup}
use Rattle.qq_cluster_model.specs.Rules.{IsFirstTick}
use Rattle.qq_cluster.specs.Nodes.{LeadsIn, Served, places_in}
use Rattle.qq_cluster.proofs.nodes.Nodes.tick_each.Given as goal

-- time has passed at the first members of the queues so far
abbrev pub invariant-places : goal.invariant-places
invariant-places g l =
    Served g.D.NodeDisk.facts (LeadsIn places_in l.at (λ (setup : Setup). IsFirstTick setup)) l.fn.self
    l.self l.fn.told l.told
