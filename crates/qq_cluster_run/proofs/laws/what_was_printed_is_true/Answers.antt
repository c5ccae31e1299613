use Rattle.qq_cluster_run.specs.Serving.{setup_behind}
use Rattle.qq_cluster_run.proofs.laws.what_was_printed_is_true.Goals as goal

pub returns : goal.returns
returns c = λ s all left b. c.a_cluster_prints_what_is_true.ensures (setup_behind b) b.events b.begins.groups
