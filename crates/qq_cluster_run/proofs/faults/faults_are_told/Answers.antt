use Rattle.qq_cluster_run.proofs.FaultsTold.{yard-told, damage-told, spent-told}
use Rattle.qq_cluster_run.proofs.faults.faults_are_told.Goals as goal

pub returns-clause-yard : goal.returns-clause-yard
returns-clause-yard c = yard-told

pub returns-clause-damaged : goal.returns-clause-damaged
returns-clause-damaged c = damage-told

pub returns-clause-spent : goal.returns-clause-spent
returns-clause-spent c = spent-told
