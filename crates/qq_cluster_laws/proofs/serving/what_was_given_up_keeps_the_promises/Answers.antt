use Rattle.qq_cluster_laws.proofs.Serves.{given_up-moments}
use Rattle.qq_cluster_laws.proofs.serving.what_was_given_up_keeps_the_promises.Goals as goal

pub returns-clause-disks : goal.returns-clause-disks
returns-clause-disks c = λ setup d a b k given. (given.told k, given.rises k)

pub returns-clause-moments : goal.returns-clause-moments
returns-clause-moments c = given_up-moments
