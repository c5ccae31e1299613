use Rattle.std.proofs.Common.{◌≡◌, ◌+◌}
use Rattle.qq_cluster_model.specs.Rules.{IsNextJudged}
use Rattle.qq_cluster.specs.Nodes.{Served}
use Rattle.qq_cluster.proofs.Repeated.{TimesIn}
use Rattle.qq_cluster.proofs.nodes.Nodes.judge_each.Given as goal

-- so many verdicts were given
abbrev pub invariant-verdicts : goal.invariant-verdicts
invariant-verdicts g l =
    Served g.D.NodeDisk.facts (TimesIn l.verdict l.count (IsNextJudged (l.at + 1))) l.fn.self l.self l.fn.told l.told
    × (l.self.active ≡ l.fn.self.active)
