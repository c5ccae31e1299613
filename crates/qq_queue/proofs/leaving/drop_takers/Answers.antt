use Rattle.std.proofs.Common.{Some, List, ◌<◌, ◌++◌, [], append-nil, subst, sym, ap, ◌∙◌, length, map}
use Rattle.qq_base.proofs.Fronts.{front-trans}
use Rattle.qq_session.specs.declared.shown.Shown.TheVariants.{Dropped}
use Rattle.std.proofs.Common.{◌∷◌}
use Rattle.qq_taker.specs.Seats.{staying}
use Rattle.qq_taker.specs.declared.seats.Seat.{Seat}
use Rattle.qq_cluster_model.specs.Taking.{dropped_by}
use Rattle.qq_queue.proofs.Showing.{shown-front}
use Rattle.qq_queue.proofs.Waits.{dropped-then, fewer, none-leaves, none-stays, staying-first}
use Rattle.qq_queue.proofs.leaving.drop_takers.Goals as goal

pub seats-preserved : goal.seats-preserved
seats-preserved c =
    let seat : Seat = c.in-Some.seat in
    record {
      seats = ap (staying c.args.whom) c.leave_first.ensures.after ∙ staying-first c.args.whom c.seats.seats
          ∙ c.seats.invariant.seats;
      said = ap (λ (l : List Seat). c.push.new.self.items ++ dropped_by (Some c.args.whom) l)
          c.leave_first.ensures.after
          ∙ dropped-then c.args.whom c.seats.seats seat c.seats.shown.items c.push.new.self.items
          c.in-Some.ensures.seat c.in_ok-push.ensures.items
          ∙ c.seats.invariant.said;
      front = front-trans c.seats.invariant.front
          (shown-front (Dropped seat.consumer.session.number seat.number ∷ []) c.seats.shown.items
          c.push.new.self.items c.in_ok-push.ensures.items);
    }

pub seats-smaller : goal.seats-smaller
seats-smaller c =
    subst (λ (l : List Seat). length l < length c.seats.seats) (sym c.leave_first.ensures.after)
    (fewer c.args.whom c.seats.seats c.in-Some.seat c.in-Some.ensures.seat)

pub returns-clause-seats : goal.returns-clause-seats
returns-clause-seats c =
    let none' = none-leaves c.args.whom c.seats.seats c.in_default.ensures.seat in
    c.in_default.ensures.after ∙ none-stays c.args.whom c.seats.seats c.in_default.ensures.seat
    ∙ sym none'.1 ∙ c.seats.invariant.seats

pub returns-clause-said : goal.returns-clause-said
returns-clause-said c =
    let none' = none-leaves c.args.whom c.seats.seats c.in_default.ensures.seat in
    sym (append-nil c.seats.shown.items)
    ∙ ap (λ (l : List Seat). c.seats.shown.items
    ++ map (λ (s : Seat). Dropped s.consumer.session.number s.number) l) (sym none'.0)
    ∙ c.seats.invariant.said
