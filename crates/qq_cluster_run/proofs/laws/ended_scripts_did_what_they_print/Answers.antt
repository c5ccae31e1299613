use Rattle.qq_cluster_run.proofs.RefusalsTold.{course-told}
use Rattle.qq_cluster_run.proofs.laws.ended_scripts_did_what_they_print.Goals as goal

pub returns : goal.returns
returns c = course-told
