use Rattle.std.proofs.Common.{sym, ap, ◌∙◌}
use Rattle.qq_consumer.specs.Joined.{JoinedState}
use Rattle.qq_consumer.proofs.GoingBack.{none-changed}
use Rattle.qq_consumer.proofs.joined.Joined.undo.Goals as goal

pub undo_seats-requires-clause-tracked : goal.undo_seats-requires-clause-tracked
undo_seats-requires-clause-tracked c = c.undo_steps.ensures.tracked c.self.inside.touched.items c.self.invariant.tracked

pub returns-clause-served : goal.returns-clause-served
returns-clause-served c =
    sym (none-changed c.undo_seats.new.rows.entries c.undo_seats.ensures.tracked)
    ∙ c.undo_seats.ensures.bases ∙ c.undo_steps.ensures.bases ∙ ap (λ (j : JoinedState). j.base) c.self.view_is
