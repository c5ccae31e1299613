use Rattle.std.proofs.Common.{◌≤◌, length}
use Rattle.qq_cluster_model.specs.Rules.{IsNothing}
use Rattle.qq_cluster_model.specs.Outcome.{Outcome}
use Rattle.qq_cluster.specs.Nodes.{Served}
use Rattle.qq_cluster.proofs.nodes.Nodes.drop_quiet.Given as goal

abbrev pub invariant-active : goal.invariant-active
invariant-active g l =
    ((outcome : Outcome) → Served g.D.NodeDisk.facts (λ setup. IsNothing) l.fn.self l.self outcome outcome)
    × (l.left ≤ length l.self.active)

abbrev pub decreases-active : goal.decreases-active
decreases-active g l = l.left
