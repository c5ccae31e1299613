use Rattle.qq_group_laws.proofs.EventLaws.{event-law}
use Rattle.qq_group_laws.proofs.audited.each_row_is_of_the_audit.Goals as goal

pub returns-clause-servers : goal.returns-clause-servers
returns-clause-servers g c = λ start h event old new rows reached was follows shown most all.
    (event-law g.Q.Queue.stands g.Q.Queue.step start g.L.LogView.log c.what_is_committed_stays_in_the_audit.ensures.known
    c.what_is_committed_stays_in_the_audit.ensures.grows c.events_reach_groups.ensures.later h event old new rows reached
    was follows shown most all).audited

pub returns-clause-rows : goal.returns-clause-rows
returns-clause-rows g c = λ start h event old new rows reached was follows shown most all.
    (event-law g.Q.Queue.stands g.Q.Queue.step start g.L.LogView.log c.what_is_committed_stays_in_the_audit.ensures.known
    c.what_is_committed_stays_in_the_audit.ensures.grows c.events_reach_groups.ensures.later h event old new rows reached
    was follows shown most all).rows_are
