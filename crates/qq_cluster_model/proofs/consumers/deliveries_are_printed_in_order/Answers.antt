use Rattle.qq_cluster_model.proofs.EachQueue.{prints-in_order}
use Rattle.qq_cluster_model.proofs.Made.{shown-front}
use Rattle.qq_cluster_model.proofs.consumers.deliveries_are_printed_in_order.Goals as goal

pub returns-clause-queue : goal.returns-clause-queue
returns-clause-queue c = λ args group events consumer begun.
    shown-front c.what_a_group_committed_stays.ensures.known c.what_a_group_committed_stays.ensures.audit
    c.what_is_out_was_delivered_as_it_is.ensures consumer args group events begun
    (λ entries deeds numbered all.
    c.consumers_are_handed_their_deliveries.ensures args entries consumer deeds numbered all)

pub returns-clause-cluster : goal.returns-clause-cluster
returns-clause-cluster c =
    prints-in_order c.what_a_group_committed_stays.ensures.known c.what_a_group_committed_stays.ensures.audit
    c.what_is_out_was_delivered_as_it_is.ensures c.consumers_are_handed_their_deliveries.ensures
