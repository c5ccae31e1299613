use Rattle.qq_group_laws.proofs.group_refusals.an_event_of_a_member_that_is_down_is_never_refused.Goals as goal

pub returns-clause-tick : goal.returns-clause-tick
returns-clause-tick g c = λ node old e down cause. rw down at cause

pub returns-clause-command : goal.returns-clause-command
returns-clause-command g c = λ node time command old e down cause. rw down at cause

pub returns-clause-notice : goal.returns-clause-notice
returns-clause-notice g c = λ node op old e down cause. rw down at cause

pub returns-clause-message : goal.returns-clause-message
returns-clause-message g c = λ place old rpc e there down cause.
    let given = rw there at cause in
    rw down at given

pub returns-clause-nothing : goal.returns-clause-nothing
returns-clause-nothing g c = λ place old e none cause. rw none at cause

pub returns-clause-add : goal.returns-clause-add
returns-clause-add g c = λ node time command old e down cause. rw down at cause

pub returns-clause-flush : goal.returns-clause-flush
returns-clause-flush g c = λ node old e down cause. rw down at cause
