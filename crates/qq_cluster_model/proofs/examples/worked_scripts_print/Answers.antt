use Rattle.qq_cluster_model.proofs.Worked.{publish-printed, kept-printed, replaced-printed, muted-printed, lost-printed, first-kept-printed, fault-printed, faulty-run}
use Rattle.qq_cluster_model.proofs.examples.worked_scripts_print.Goals as goal

pub returns-clause-publish : goal.returns-clause-publish
returns-clause-publish c = publish-printed

pub returns-clause-kept : goal.returns-clause-kept
returns-clause-kept c = kept-printed

pub returns-clause-replaced : goal.returns-clause-replaced
returns-clause-replaced c = replaced-printed

pub returns-clause-muted : goal.returns-clause-muted
returns-clause-muted c = muted-printed

pub returns-clause-lost : goal.returns-clause-lost
returns-clause-lost c = lost-printed

pub returns-clause-first_kept : goal.returns-clause-first_kept
returns-clause-first_kept c = first-kept-printed

pub returns-clause-fault : goal.returns-clause-fault
returns-clause-fault c = fault-printed

pub returns-clause-fault_run : goal.returns-clause-fault_run
returns-clause-fault_run c = faulty-run c.groups_are_opened.ensures.new
