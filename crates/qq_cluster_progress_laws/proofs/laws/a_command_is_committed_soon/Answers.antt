use Rattle.qq_cluster_progress_laws.proofs.Law.{line-commits}
use Rattle.qq_cluster_progress_laws.proofs.laws.a_command_is_committed_soon.Goals as goal

pub returns : goal.returns
returns c =
    line-commits c.a_log_was_handed_the_changes_of_its_server.ensures c.what_a_group_committed_stays.ensures.known
    c.what_a_group_committed_stays.ensures.audit c.what_a_group_committed_stays.ensures.commit c.what_a_group_committed_stays.ensures.whole
    c.each_row_was_submitted.ensures.audit
