use Rattle.qq_cluster_run.proofs.Opening.{has-node}
use Rattle.qq_cluster_run.proofs.serving.runs_have_a_node.Goals as goal

pub returns : goal.returns
returns c = has-node
