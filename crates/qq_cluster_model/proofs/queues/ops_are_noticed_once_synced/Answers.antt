use Rattle.qq_cluster_model.proofs.Counts.{counts-rise}
use Rattle.qq_cluster_model.proofs.queues.ops_are_noticed_once_synced.Goals as goal

pub returns : goal.returns
returns c = counts-rise
