use Rattle.qq_cluster_model.proofs.Serving.{runs-served}
use Rattle.qq_cluster_model.proofs.clusters.scripts_may_be_served.Goals as goal

pub returns : goal.returns
returns c = runs-served
