use Rattle.qq_cluster_model.proofs.TakerRuns.{sees-run}
use Rattle.qq_cluster_model.proofs.takers.takers_see_runs_of_deliveries.Goals as goal

pub returns : goal.returns
returns c =
    sees-run c.what_a_group_committed_stays.ensures.known c.what_a_group_committed_stays.ensures.audit
    c.what_is_out_was_delivered_as_it_is.ensures c.consumers_are_handed_their_deliveries.ensures
