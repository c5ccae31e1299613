use Rattle.std.proofs.Common.{◌≡◌, ◌<◌, ℕ, true, ◌+◌, get_or}
use Rattle.qq_cluster_model.specs.Cluster.{Cluster, Setup}
use Rattle.qq_cluster_model.specs.Rules.{is_quiet}
use Rattle.qq_cluster_laws.specs.Linked.{IsReached}
use Rattle.qq_cluster.specs.Nodes.{Stands}
use Rattle.qq_cluster.proofs.nodes.Nodes.is_idle.Given as goal

-- the active queues so far are quiet
abbrev pub invariant-active : goal.invariant-active
invariant-active g l =
    (setup : Setup) (c : Cluster) → IsReached setup c → Stands g.D.NodeDisk.facts setup l.self c → (i : ℕ) → i < l.place
    → is_quiet setup c.up (c.queue (get_or l.self.active i 0 + 1)) ≡ true
