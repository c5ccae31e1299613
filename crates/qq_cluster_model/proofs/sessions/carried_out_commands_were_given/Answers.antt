use Rattle.qq_cluster_model.proofs.Given.{carried-in_order, row-given}
use Rattle.qq_cluster_model.proofs.sessions.carried_out_commands_were_given.Goals as goal

pub returns-clause-given : goal.returns-clause-given
returns-clause-given c = λ args group session events a e begun front.
    row-given c.each_row_was_submitted.ensures.audit c.what_a_group_committed_stays.ensures.whole args group session
    events begun a e front

pub returns-clause-order : goal.returns-clause-order
returns-clause-order c =
    carried-in_order c.each_row_was_submitted.ensures.audit c.what_a_group_committed_stays.ensures.whole
    c.commands_arrive_in_order.ensures c.groups_are_opened.ensures.new
