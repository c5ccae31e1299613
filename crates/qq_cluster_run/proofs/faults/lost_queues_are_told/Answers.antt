use Rattle.qq_cluster_run.proofs.FaultsTold.{lost-told}
use Rattle.qq_cluster_run.proofs.faults.lost_queues_are_told.Goals as goal

pub returns : goal.returns
returns c = lost-told
