use Rattle.qq_cluster_model.proofs.Counting.{counts-none, counts-some, counts-whole}
use Rattle.qq_cluster_model.proofs.queues.a_leader_counts_by_the_audit.Goals as goal

pub returns-clause-whole : goal.returns-clause-whole
returns-clause-whole c = counts-whole

pub returns-clause-nobody : goal.returns-clause-nobody
returns-clause-nobody c = counts-none

pub returns-clause-somebody : goal.returns-clause-somebody
returns-clause-somebody c = counts-some
