use Rattle.qq_cluster_run.proofs.Printing.{go_alike}
use Rattle.qq_cluster_run.proofs.laws.runs_settle.Goals as goal

pub returns : goal.returns
returns c = go_alike c.lines_settle.ensures.run
