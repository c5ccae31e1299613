use Rattle.std.proofs.Common.{List, ◌∷◌, ◌++◌, [], append-nil, sym, ap, ◌∙◌}
use Rattle.qq_base.proofs.Fronts.{front-trans}
use Rattle.qq_cluster_model.specs.Taking.{delivered, waiting_of}
use Rattle.qq_session.specs.declared.shown.Shown.TheVariants.{Delivered}
use Rattle.qq_taker.specs.declared.handed.Handed.{Handed}
use Rattle.qq_queue.proofs.Showing.{shown-front}
use Rattle.qq_queue.proofs.Waits.{delivered-then, plain-first, popped-fewer}
use Rattle.qq_queue.proofs.handing_out.release.Goals as goal

pub plain-preserved : goal.plain-preserved
plain-preserved c =
    let h : Handed = c.in-Some.handed in
    let more : List Handed = c.pop_plain.new.self in
    let seats = c.args.seats.now in
    record {
      untold = sym (ap (waiting_of seats) c.in-Some.ensures.some.0
          ∙ (plain-first seats h more c.in-Some.ensures.some.1).1) ∙ c.plain.invariant.untold;
      said = delivered-then seats h c.plain.untold more c.plain.shown.items c.show_delivery.new.shown.items
          c.in-Some.ensures.some.0 c.in-Some.ensures.some.1 c.in_ok-show_delivery.ensures.ok
          ∙ c.plain.invariant.said;
      front = front-trans c.plain.invariant.front
          (shown-front (Delivered h.consumer h.delivery ∷ []) c.plain.shown.items c.show_delivery.new.shown.items
          c.in_ok-show_delivery.ensures.ok);
    }

pub plain-smaller : goal.plain-smaller
plain-smaller c = popped-fewer c.in-Some.handed c.plain.untold c.pop_plain.new.self c.in-Some.ensures.some.0

pub returns-clause-untold : goal.returns-clause-untold
returns-clause-untold c =
    c.in_default.ensures.none.0 ∙ sym c.in_default.ensures.none.2 ∙ c.plain.invariant.untold

pub returns-clause-said : goal.returns-clause-said
returns-clause-said c =
    sym (append-nil c.plain.shown.items)
    ∙ ap (λ (l : List Handed). c.plain.shown.items ++ delivered l) (sym c.in_default.ensures.none.1)
    ∙ c.plain.invariant.said
