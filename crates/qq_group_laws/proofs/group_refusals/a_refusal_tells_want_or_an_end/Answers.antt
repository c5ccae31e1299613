use Rattle.qq_group_laws.proofs.GroupCauses.{told-event}
use Rattle.qq_group_laws.proofs.group_refusals.a_refusal_tells_want_or_an_end.Goals as goal

pub returns : goal.returns
returns g c = λ event old e sound cause.
    told-event g.Q.Queue.stands g.Q.Queue.step g.Q.Queue.passes_end g.L.LogView.log g.Q.Queue.applied event old e sound
    cause
