use Rattle.qq_group_laws.proofs.Events.{handed-group, named-or, started-group}
use Rattle.qq_group_laws.proofs.Refused.{refused}
use Rattle.qq_group_laws.proofs.audited.members_apply_the_audit.Goals as goal

pub returns-clause-opened : goal.returns-clause-opened
returns-clause-opened g c = λ start group starts machines has down k.
    named-or g.Q.Queue.stands g.Q.Queue.step start group.audit.items k group starts machines has (down k)

pub returns-clause-restarted : goal.returns-clause-restarted
returns-clause-restarted g c = λ start k machine old new stood has stay same all.
    started-group g.Q.Queue.stands g.Q.Queue.step start k machine old new stood has stay same all

pub returns-clause-handed : goal.returns-clause-handed
returns-clause-handed g c = λ start k old new keep stay same all.
    handed-group g.Q.Queue.stands g.Q.Queue.step start k old new keep stay same all

pub returns-clause-refused : goal.returns-clause-refused
returns-clause-refused g c = λ start h event old new e was makes most cause all.
    refused g.Q.Queue.stands g.Q.Queue.step g.Q.Queue.passes_end start g.L.LogView.log event h old new e was
    (makes h was) most cause all
