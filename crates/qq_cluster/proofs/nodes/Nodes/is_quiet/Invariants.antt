use Rattle.std.proofs.Common.{◌≡◌, true, take, ◌+◌}
use Rattle.std.specs.List.{list_all}
use Rattle.qq_cluster_model.specs.Cluster.{Cluster, Setup}
use Rattle.qq_cluster_model.specs.Rules.{is_quiet_at}
use Rattle.qq_cluster_laws.specs.Linked.{IsReached}
use Rattle.qq_cluster.specs.Nodes.{Stands}
use Rattle.qq_cluster.proofs.nodes.Nodes.is_quiet.Given as goal

-- nothing waits at the nodes so far
abbrev pub invariant-nodes : goal.invariant-nodes
invariant-nodes g l =
    (setup : Setup) (c : Cluster) → IsReached setup c → Stands g.D.NodeDisk.facts setup l.self c
    → list_all (is_quiet_at (c.queue (l.at + 1)) c.up) (take l.place setup.nodes) ≡ true
