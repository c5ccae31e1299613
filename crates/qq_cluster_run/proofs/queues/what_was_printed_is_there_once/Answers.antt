use Rattle.qq_cluster_run.proofs.PrintedOnce.{answer-there, answer-sent, confirmed-once, delivery-there}
use Rattle.qq_cluster_run.specs.Serving.{setup_behind}
use Rattle.qq_cluster_run.proofs.queues.what_was_printed_is_there_once.Goals as goal

pub returns-clause-answer : goal.returns-clause-answer
returns-clause-answer c = answer-there c.a_cluster_prints_what_is_true.ensures

pub returns-clause-client : goal.returns-clause-client
returns-clause-client c = answer-sent c.a_cluster_prints_what_is_true.ensures

pub returns-clause-confirmed : goal.returns-clause-confirmed
returns-clause-confirmed c = confirmed-once c.a_cluster_prints_what_is_true.ensures

pub returns-clause-delivery : goal.returns-clause-delivery
returns-clause-delivery c = delivery-there c.a_cluster_prints_what_is_true.ensures

pub returns-clause-order : goal.returns-clause-order
returns-clause-order c = λ s all left b.
    c.deliveries_are_printed_in_order.ensures.cluster (setup_behind b) b.events b.begins.groups
