use Rattle.qq_cluster_model.proofs.WorkedConsumers.{missed-printed, untaken-printed, in_order-printed, late-printed}
use Rattle.qq_cluster_model.proofs.examples.worked_consumers_print.Goals as goal

pub returns-clause-missed : goal.returns-clause-missed
returns-clause-missed c = missed-printed

pub returns-clause-untaken : goal.returns-clause-untaken
returns-clause-untaken c = untaken-printed

pub returns-clause-in_order : goal.returns-clause-in_order
returns-clause-in_order c = in_order-printed

pub returns-clause-late : goal.returns-clause-late
returns-clause-late c = late-printed
