use Rattle.qq_cluster_model.proofs.Judging.{line-leaves, run-leaves}
use Rattle.qq_cluster_model.proofs.takers.nothing_waits_between_lines.Goals as goal

pub returns-clause-line : goal.returns-clause-line
returns-clause-line c = line-leaves

pub returns-clause-run : goal.returns-clause-run
returns-clause-run c = run-leaves
