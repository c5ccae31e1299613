-- What an event makes of the states that a group stands for.
use Rattle.std.proofs.Common.{◌≡◌, ℕ, [], ◌∷◌, sym, subst}
use Rattle.qq_base.specs.Fronts.{IsFront}
use Rattle.qq_log.specs.Log.{LogState}
use Rattle.qq_raft_model.specs.Server.{Input}
use Rattle.qq_raft_model.specs.Group.{Event, Group as GroupState, feed, happens}
use Rattle.qq_group.specs.Follows.{Feeds, Follows}
use Rattle.qq_group.specs.Group.{IsReached, Represents}
use Rattle.qq_group.specs.declared.group.Group.{Group}
use Rattle.qq_group.proofs.Reached.{AuditLaw, audit-front, reached-next}

-- where an event is an input
pub feeds-follows : {Q L : Type 0} (log : L → LogState) → AuditLaw → (k : ℕ) (input : Input) (e : Event)
    (old new : Group Q L) → ((g : GroupState) → Represents log g old → feed k input g ≡ happens e g)
    → Feeds log k input old new → Follows log (happens e) old new
feeds-follows log law k input e old new same feeds = λ g reached r.
    let is = same g r in
    subst (λ h. Represents log h new) is
    (feeds g r (subst IsReached (sym is) (reached-next g e reached))
    (subst (λ (h : GroupState). IsFront g.audit h.audit) (sym is) (audit-front law g (e ∷ []) reached)))
