use Rattle.qq_cluster_progress_laws.proofs.First.{first-answered}
use Rattle.qq_cluster_progress_laws.proofs.laws.a_first_command_is_answered.Goals as goal

pub returns : goal.returns
returns c =
    first-answered c.a_log_was_handed_the_changes_of_its_server.ensures c.what_a_group_committed_stays.ensures.known
    c.what_a_group_committed_stays.ensures.audit c.what_a_group_committed_stays.ensures.commit c.what_a_group_committed_stays.ensures.whole
    c.each_row_was_submitted.ensures.audit
