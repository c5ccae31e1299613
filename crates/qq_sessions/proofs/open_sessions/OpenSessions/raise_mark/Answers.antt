use Rattle.std.proofs.Common.{sym, ap, ◌∙◌, subst, is_some}
use Rattle.qq_sessions.specs.Named.{HoldsKept}
use Rattle.qq_sessions.proofs.open_sessions.OpenSessions.raise_mark.Goals as goal

pub invariant_of-self : goal.invariant_of-self
invariant_of-self c = record {
  held = subst (HoldsKept c.let_go_done.new.named.indices) (sym c.raise_mark.ensures.rows) c.let_go_done.ensures.held;
  room = λ some. c.let_go_done.ensures.room (c.self.invariant.room (sym (ap is_some c.raise_mark.ensures.room) ∙ some));
}
