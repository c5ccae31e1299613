use Rattle.qq_cluster_run.proofs.RefusalsTold.{refused-told}
use Rattle.qq_cluster_run.proofs.faults.refused_lines_are_told.Goals as goal

pub returns : goal.returns
returns c = refused-told
