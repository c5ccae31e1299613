use Rattle.std.proofs.Common.{List, take, subst}
use Rattle.qq_base.specs.Fronts.{IsFront}
use Rattle.qq_entry.specs.declared.command.Entry.{Entry}
use Rattle.qq_raft_core.specs.Raft.{server_of}
use Rattle.qq_group.proofs.Promises.{up-in}
use Rattle.qq_group.proofs.Reached.{audit-front, known-front}
use Rattle.qq_group.proofs.laws.what_is_committed_stays_in_the_audit.Goals as goal

pub returns-clause-known : goal.returns-clause-known
returns-clause-known g c = λ h group k s reached r up.
    let log = g.L.LogView.log in
    subst (λ (a : List Entry). IsFront (take s.raft.commit (log s.raft.log).entries) a) r.audit
    (known-front c.what_a_group_committed_stays.ensures.known h k (server_of log s.raft) reached
    (up-in log h k s group r up))

pub returns-clause-grows : goal.returns-clause-grows
returns-clause-grows g c = λ h events old new reached before after.
    subst (λ (a : List Entry). IsFront a new.audit.items) before.audit
    (subst (IsFront h.audit) after.audit
    (audit-front c.what_a_group_committed_stays.ensures.audit h events reached))
