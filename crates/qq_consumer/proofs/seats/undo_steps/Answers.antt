use Rattle.std.proofs.Common.{◌≡◌, List, ◌∷◌, ap, ◌∙◌, sym, subst, arith}
use Rattle.std.specs.Prelude.{length}
use Rattle.qq_consumer.specs.declared.step.Step.{Step}
use Rattle.qq_consumer.specs.Joined.{CanUndo, bases_of, base_one, base_id, seen, undone}
use Rattle.qq_consumer.proofs.seats.undo_steps.Goals as goal

pub steps-preserved : goal.steps-preserved
steps-preserved c =
    let rest : List Step = c.pop_front.new.self.items in
    let is : c.steps.journal.items ≡ c.in-Some.step ∷ rest = c.in-Some.ensures.items in
    let held = c.steps.invariant in
    let len = ap (λ (js : List Step). length js) is in (
      ap (undone base_one rest) c.undo_step.ensures.bases
          ∙ ap (λ (js : List Step). undone base_one js (bases_of c.steps.rows.entries)) (sym is) ∙ held.0,
      c.undo_step.ensures.joined,
      subst (CanUndo rest) (sym c.undo_step.ensures.ids)
          (subst (λ (js : List Step). CanUndo js (seen base_id c.steps.rows.entries)) is held.2).1,
      λ touched each. c.undo_step.ensures.tracked touched (held.3 touched each),
      omega (arith, len, held.4, c.undo_step.ensures.spare),
    )
