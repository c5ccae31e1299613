use Rattle.std.proofs.Common.{refl, sym, ap, ◌∙◌, subst, is_some}
use Rattle.qq_model.specs.Gate.{set_tag}
use Rattle.qq_sessions.specs.Named.{HoldsKept}
use Rattle.qq_sessions.proofs.Holders.{holds-same}
use Rattle.qq_sessions.proofs.open_sessions.OpenSessions.set_tag.Goals as goal

pub invariant_of-self : goal.invariant_of-self
invariant_of-self c = record {
  held =
      subst (HoldsKept c.self.inside.named.indices) (sym c.set_tag.ensures.rows)
      (holds-same c.args.session (set_tag c.args.tag) c.self.inside.opened.rows
      c.self.inside.named.indices (λ _. refl) c.self.invariant.held);
  room = λ some. c.self.invariant.room (sym (ap is_some c.set_tag.ensures.room) ∙ some);
}
