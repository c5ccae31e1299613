use Rattle.std.proofs.Common.{List, subst}
use Rattle.qq_base.specs.Fronts.{IsFront}
use Rattle.qq_entry.specs.declared.command.Entry.{Entry}
use Rattle.qq_raft_protocol.specs.Moves.{longer}
use Rattle.qq_raft_protocol.specs.Safe.{IsSupported}
use Rattle.qq_raft_protocol.proofs.Fewer.{supported-fewer}
use Rattle.qq_raft_model.specs.Promises.{IsLeft, members_of}
use Rattle.qq_group.proofs.Reached.{reached-supported, reached-whole}
use Rattle.qq_group.proofs.laws.the_logs_support_the_audit.Goals as goal

pub returns-clause-audit : goal.returns-clause-audit
returns-clause-audit g c = λ h group reached r.
    subst (λ (a : List Entry). IsSupported (members_of h.nodes) (IsLeft h) a) r.audit
    (supported-fewer (λ q l left. left) (reached-whole c.what_a_group_committed_stays.ensures.whole h reached).1
    (reached-supported c.the_disks_support_the_audit.ensures.supported h reached))

pub returns-clause-supported : goal.returns-clause-supported
returns-clause-supported g c = λ h group reached r.
    subst (λ (a : List Entry). IsSupported (members_of h.nodes) (IsLeft h) (longer reached.whole a)) r.audit
    (reached-supported c.the_disks_support_the_audit.ensures.supported h reached)

pub returns-clause-whole : goal.returns-clause-whole
returns-clause-whole g c = λ h group reached r.
    subst (λ (a : List Entry). IsFront reached.whole (longer reached.whole a) × IsFront a (longer reached.whole a))
    r.audit (reached-whole c.what_a_group_committed_stays.ensures.whole h reached)
