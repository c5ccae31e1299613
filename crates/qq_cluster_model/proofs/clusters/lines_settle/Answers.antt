use Rattle.qq_cluster_model.proofs.Settling.{line-settles, run-settles}
use Rattle.qq_cluster_model.proofs.clusters.lines_settle.Goals as goal

pub returns-clause-line : goal.returns-clause-line
returns-clause-line c = line-settles

pub returns-clause-run : goal.returns-clause-run
returns-clause-run c = run-settles
