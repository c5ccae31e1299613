use Rattle.qq_cluster_model.proofs.Stopping.{say-down}
use Rattle.qq_cluster_model.proofs.clusters.a_node_that_is_down_says_so.Goals as goal

pub returns : goal.returns
returns c = say-down
