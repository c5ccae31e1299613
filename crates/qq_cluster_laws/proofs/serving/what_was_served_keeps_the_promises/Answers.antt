use Rattle.qq_cluster_laws.proofs.Serves.{served-faults, served-moments}
use Rattle.qq_cluster_laws.proofs.serving.what_was_served_keeps_the_promises.Goals as goal

pub returns-clause-faults : goal.returns-clause-faults
returns-clause-faults c = served-faults

pub returns-clause-moments : goal.returns-clause-moments
returns-clause-moments c = served-moments
