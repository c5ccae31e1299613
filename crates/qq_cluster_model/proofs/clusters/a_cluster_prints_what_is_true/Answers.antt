use Rattle.qq_cluster_model.proofs.EachQueue.{prints-true}
use Rattle.qq_cluster_model.proofs.clusters.a_cluster_prints_what_is_true.Goals as goal

pub returns : goal.returns
returns c =
    prints-true c.what_a_group_committed_stays.ensures.known c.what_a_group_committed_stays.ensures.audit
    c.what_is_out_was_delivered_as_it_is.ensures c.commands_count_by_one.ensures c.commands_are_answered_once.ensures
