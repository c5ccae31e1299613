use Rattle.qq_cluster_run.proofs.Worked.{knows, served-prints, refused-prints, limited-prints, fault-prints, whole-fault-prints, cut-prints}
use Rattle.qq_cluster_run.proofs.examples.worked_scripts_print.Goals as goal

pub returns-clause-served : goal.returns-clause-served
returns-clause-served c =
    served-prints (knows c.lines_settle.ensures.run c.scripts_may_be_served.ensures c.clusters_begin_with_new_logs.ensures)

pub returns-clause-read : goal.returns-clause-read
returns-clause-read c = λ options s done. done.read

pub returns-clause-refused : goal.returns-clause-refused
returns-clause-refused c =
    refused-prints (knows c.lines_settle.ensures.run c.scripts_may_be_served.ensures c.clusters_begin_with_new_logs.ensures)

pub returns-clause-limited : goal.returns-clause-limited
returns-clause-limited c =
    limited-prints (knows c.lines_settle.ensures.run c.scripts_may_be_served.ensures c.clusters_begin_with_new_logs.ensures)

pub returns-clause-read_fault : goal.returns-clause-read_fault
returns-clause-read_fault c =
    fault-prints (knows c.lines_settle.ensures.run c.scripts_may_be_served.ensures c.clusters_begin_with_new_logs.ensures)

pub returns-clause-read_whole : goal.returns-clause-read_whole
returns-clause-read_whole c =
    whole-fault-prints
    (knows c.lines_settle.ensures.run c.scripts_may_be_served.ensures c.clusters_begin_with_new_logs.ensures)

pub returns-clause-cut : goal.returns-clause-cut
returns-clause-cut c =
    cut-prints (knows c.lines_settle.ensures.run c.scripts_may_be_served.ensures c.clusters_begin_with_new_logs.ensures)
