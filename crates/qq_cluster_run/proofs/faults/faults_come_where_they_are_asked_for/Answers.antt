use Rattle.qq_cluster_run.proofs.FaultsTold.{yard-unopened, damage-unopened, lost-unopened, spent-unopened}
use Rattle.qq_cluster_run.proofs.faults.faults_come_where_they_are_asked_for.Goals as goal

pub returns-clause-yard : goal.returns-clause-yard
returns-clause-yard c = yard-unopened

pub returns-clause-damaged : goal.returns-clause-damaged
returns-clause-damaged c = damage-unopened

pub returns-clause-lost : goal.returns-clause-lost
returns-clause-lost c = lost-unopened

pub returns-clause-spent : goal.returns-clause-spent
returns-clause-spent c = spent-unopened
