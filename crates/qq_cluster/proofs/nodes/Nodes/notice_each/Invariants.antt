use Rattle.std.proofs.Common.{◌≡◌, get_or, length}
use Rattle.qq_cluster_model.specs.Cluster.{Setup}
use Rattle.qq_cluster_model.specs.Rules.{IsNotice}
use Rattle.qq_cluster.specs.Nodes.{LeadsIn, Served, places_in}
use Rattle.qq_cluster.proofs.nodes.Nodes.notice_each.Given as goal

-- the active queues so far have noticed what is synced of them, and so have those between
abbrev pub invariant-active : goal.invariant-active
invariant-active g l =
    Served g.D.NodeDisk.facts
    (LeadsIn places_in (get_or l.self.active l.place (length l.self.queues.items)) (λ (setup : Setup). IsNotice l.node.0))
    l.fn.self l.self l.fn.told l.told
    × (l.self.active ≡ l.fn.self.active)
