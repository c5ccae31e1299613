use Rattle.std.proofs.Common.{◌≡◌, List, ◌∷◌, ◌∙◌, subst}
use Rattle.std.specs.List.{AllByRecursion}
use Rattle.qq_base.specs.declared.ids.ConsumerId.{ConsumerId}
use Rattle.qq_consumer.specs.Joined.{IsTracked}
use Rattle.qq_consumer.proofs.seats.undo_seats.Goals as goal

pub touched-preserved : goal.touched-preserved
touched-preserved c =
    let rest : List ConsumerId = c.pop_front.new.self.items in
    let is : c.touched.touched.items ≡ c.in-Some.id ∷ rest = c.in-Some.ensures.items in
    let held = c.touched.invariant in (
      c.undo_seat.ensures.bases ∙ held.0,
      c.undo_seat.ensures.joined,
      c.undo_seat.ensures.tracked rest
          (subst (λ (ids : List ConsumerId). AllByRecursion (IsTracked ids) c.touched.rows.entries) is held.2),
      c.undo_seat.ensures.spare ∙ held.3,
    )
