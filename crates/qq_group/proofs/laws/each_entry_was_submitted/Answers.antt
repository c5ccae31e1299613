use Rattle.std.proofs.Common.{subst, sym}
use Rattle.qq_base.specs.Fronts.{IsFront}
use Rattle.qq_base.proofs.Fronts.{front-trans}
use Rattle.qq_raft_protocol.specs.Facts.{add}
use Rattle.qq_raft_model.specs.Group.{Group}
use Rattle.qq_raft_model.specs.Promises.{whole_audit}
use Rattle.qq_group.proofs.Reached.{reached-whole}
use Rattle.qq_group.proofs.laws.each_entry_was_submitted.Goals as goal

pub returns : goal.returns
returns g c = λ h group reached a e r front.
    let whole : IsFront (add a e) (whole_audit reached.whole h) =
    front-trans (subst (IsFront (add a e)) (sym r.audit) front)
    (reached-whole c.what_a_group_committed_stays.ensures.whole h reached).1 in
    c.each_row_was_submitted.ensures.audit reached.start reached.whole reached.events a e reached.distinct reached.opened
    (subst (λ (x : Group). IsFront (add a e) (whole_audit reached.whole x)) reached.is whole)
