use Rattle.qq_cluster_pins.proofs.Looking.{counts-consumers, counts-rows}
use Rattle.qq_cluster_pins.proofs.seeing.counts_are_of_ready_messages_and_consumers.Goals as goal

pub returns-clause-rows : goal.returns-clause-rows
returns-clause-rows c = counts-rows

pub returns-clause-consumers : goal.returns-clause-consumers
returns-clause-consumers c = counts-consumers
