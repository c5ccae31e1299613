use Rattle.std.proofs.Common.{sym, ap, ◌∙◌, subst, is_some}
use Rattle.qq_sessions.specs.Opened.{OpenedState}
use Rattle.qq_sessions.specs.Named.{HoldsKept}
use Rattle.qq_sessions.proofs.Holders.{no-room}
use Rattle.qq_sessions.proofs.open_sessions.OpenSessions.add_answer.Goals as goal

pub hold_answer-requires-clause-room : goal.hold_answer-requires-clause-room
hold_answer-requires-clause-room c =
    c.self.invariant.room (ap (λ (o : OpenedState). is_some o.room) c.self.view_is ∙ ap is_some c.requires)

pub invariant_of-self : goal.invariant_of-self
invariant_of-self c = record {
  held = subst (HoldsKept c.hold_answer.new.named.indices) (sym c.add_answer.ensures.rows) c.hold_answer.ensures;
  room = λ some. absurd (no-room _ c.add_answer.ensures.room some);
}
