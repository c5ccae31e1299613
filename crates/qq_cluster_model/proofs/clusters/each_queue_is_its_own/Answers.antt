use Rattle.qq_cluster_model.proofs.EachQueue.{has-queues, prints-own}
use Rattle.qq_cluster_model.proofs.clusters.each_queue_is_its_own.Goals as goal

pub returns-clause-queues : goal.returns-clause-queues
returns-clause-queues c = has-queues

pub returns-clause-prints : goal.returns-clause-prints
returns-clause-prints c = prints-own
