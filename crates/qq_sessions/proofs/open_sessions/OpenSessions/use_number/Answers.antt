use Rattle.std.proofs.Common.{refl, sym, ap, ◌∙◌, subst, is_some}
use Rattle.qq_model.specs.Gate.{raise_mark, use_number}
use Rattle.qq_sessions.specs.Named.{HoldsKept}
use Rattle.qq_sessions.proofs.Holders.{holds-like}
use Rattle.qq_sessions.proofs.open_sessions.OpenSessions.use_number.Goals as goal

pub invariant_of-self : goal.invariant_of-self
invariant_of-self c = record {
  held =
      subst (HoldsKept c.let_go_done.new.named.indices) (sym c.use_number.ensures.rows)
      (holds-like c.args.stamp.now.session (use_number c.args.stamp.now) (raise_mark c.args.stamp.now)
      c.self.inside.opened.rows c.let_go_done.new.named.indices (λ _. refl) c.let_go_done.ensures.held);
  room = λ some. c.let_go_done.ensures.room (c.self.invariant.room (sym (ap is_some c.use_number.ensures.room) ∙ some));
}
