use Rattle.std.proofs.Common.{◌≡◌, get_or, length}
use Rattle.qq_cluster_model.specs.Cluster.{Setup}
use Rattle.qq_cluster_model.specs.Rules.{IsEmptied}
use Rattle.qq_cluster.specs.Nodes.{LeadsIn, Served, places_in}
use Rattle.qq_cluster.proofs.nodes.Nodes.empty_each.Given as goal

-- the messages of the active queues so far were delivered, and between them there are none
abbrev pub invariant-active : goal.invariant-active
invariant-active g l =
    Served g.D.NodeDisk.facts
    (LeadsIn places_in (get_or l.self.active l.place (length l.self.queues.items)) (λ (setup : Setup). IsEmptied))
    l.fn.self l.self l.fn.told l.told
    × (l.self.active ≡ l.fn.self.active)
