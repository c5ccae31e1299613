use Rattle.std.proofs.Common.{sym, ap, ◌∙◌}
use Rattle.qq_model.proofs.Soundness.{Contains-in}
use Rattle.qq_script_lines.specs.declared.line.ScriptLine.TheVariants.{Pump}
use Rattle.qq_cluster_model.specs.Cluster.{Fails, FindsEach}
use Rattle.qq_cluster_model.specs.ClusterLaws.{findings, has_failure, verdicts}
use Rattle.qq_cluster_model.specs.Example.{setup_of}
use Rattle.qq_cluster_model.specs.Serving.{pump}
use Rattle.qq_cluster_pins.proofs.Faults.{fine-from, found-none}
use Rattle.qq_cluster_pins.proofs.Worked.{fine as made-fine, none-found, none-given, none-judged, pump-is, pump-line, standing}
use Rattle.qq_cluster_pins.proofs.counts.a_round_goes_node_by_node.Goals as goal

pub returns : goal.returns
returns c = λ events is fine found.
    c.lines_settle.ensures.line (setup_of 2 2) Pump standing events (pump (setup_of 2 2) standing) is pump-line
    (fine-from events (λ k here. fine k (Contains-in (Fails k) events here))) (ap has_failure pump-is ∙ made-fine)
    (found-none events (λ k ops here. found k ops (Contains-in (FindsEach k ops) events here))
    ∙ sym (ap findings pump-is ∙ none-found))
    (none-judged events is ∙ sym (ap verdicts pump-is ∙ none-given))
    ∙ pump-is
