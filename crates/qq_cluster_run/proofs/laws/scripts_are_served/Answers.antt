use Rattle.qq_cluster_run.proofs.Printing.{served_status, fine_status, prints_all}
use Rattle.qq_cluster_run.proofs.laws.scripts_are_served.Goals as goal

pub returns-clause-served : goal.returns-clause-served
returns-clause-served c = served_status

pub returns-clause-fine : goal.returns-clause-fine
returns-clause-fine c = fine_status

pub returns-clause-printed : goal.returns-clause-printed
returns-clause-printed c = prints_all
