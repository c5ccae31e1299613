use Rattle.qq_base.proofs.Lists.{AllByRecursion-in}
use Rattle.qq_model.proofs.Soundness.{in_contains}
use Rattle.qq_cluster_model.specs.Laws.{IsOwnTo}
use Rattle.qq_cluster_model.specs.Queue.{own_rows}
use Rattle.qq_cluster_pins.proofs.queues.a_queue_notices_and_answers.Goals as goal

pub returns-clause-own : goal.returns-clause-own
returns-clause-own c = λ setup events place. c.each_queue_is_its_own.ensures.queues setup events place

pub returns-clause-noticed : goal.returns-clause-noticed
returns-clause-noticed c = λ args group events k begun.
    let rise = c.ops_are_noticed_once_synced.ensures args group events k begun in
    (rise.noticed, rise.synced)

pub returns-clause-stays : goal.returns-clause-stays
returns-clause-stays c = λ args group first second begun.
    let front = c.an_audit_is_serial.ensures.stays args group first second begun in
    (front.rest, front.is)

pub returns-clause-term : goal.returns-clause-term
returns-clause-term c = λ args s t row there.
    let own : IsOwnTo t row =
    AllByRecursion-in (IsOwnTo t) row (own_rows args s t) (c.a_leader_answers_its_own_term.ensures.rows args s t)
    (in_contains (own_rows args s t) row there) in
    (own.ready, own.term)
