use Rattle.qq_cluster_model.proofs.Made.{deliveries-made}
use Rattle.qq_cluster_model.proofs.SessionLaws.{answers-audited, confirms-once}
use Rattle.qq_cluster_model.proofs.sessions.what_is_printed_is_audited.Goals as goal

pub returns-clause-answers : goal.returns-clause-answers
returns-clause-answers c =
    answers-audited c.what_a_group_committed_stays.ensures.known c.what_a_group_committed_stays.ensures.audit

pub returns-clause-confirmed : goal.returns-clause-confirmed
returns-clause-confirmed c =
    confirms-once c.what_a_group_committed_stays.ensures.known c.what_a_group_committed_stays.ensures.audit
    c.commands_count_by_one.ensures c.commands_are_answered_once.ensures

pub returns-clause-deliveries : goal.returns-clause-deliveries
returns-clause-deliveries c =
    deliveries-made c.what_a_group_committed_stays.ensures.known c.what_a_group_committed_stays.ensures.audit
    c.what_is_out_was_delivered_as_it_is.ensures
