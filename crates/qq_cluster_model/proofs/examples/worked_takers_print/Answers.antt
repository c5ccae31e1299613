use Rattle.qq_cluster_model.proofs.WorkedTakers.{taker-printed, taker-run}
use Rattle.qq_cluster_model.proofs.examples.worked_takers_print.Goals as goal

pub returns-clause-prints : goal.returns-clause-prints
returns-clause-prints c = taker-printed

pub returns-clause-run : goal.returns-clause-run
returns-clause-run c = taker-run c.groups_are_opened.ensures.new
