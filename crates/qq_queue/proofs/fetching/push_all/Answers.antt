use Rattle.std.proofs.Common.{◌≡◌, ◌∷◌, [], ◌++◌, List, map, sym, ap, ◌∙◌, append_assoc, append-nil}
use Rattle.qq_entry.specs.declared.answer.Delivery.{Delivery}
use Rattle.qq_entry.specs.declared.audit.Effect.{Effect}
use Rattle.qq_entry.specs.declared.audit.Effect.TheVariants.{Deliver}
use Rattle.qq_queue.proofs.Offering.{nil-of}
use Rattle.qq_queue.proofs.fetching.push_all.Goals as goal

pub deliveries-preserved : goal.deliveries-preserved
deliveries-preserved c =
    let rest : List Effect = map (Deliver c.args.consumer) c.pop_front.new.self.items in
    ap (λ (l : List Effect). l ++ rest) c.in_ok-push.ensures.items
    ∙ append_assoc c.deliveries.effects.items (Deliver c.args.consumer c.in-Some.delivery ∷ []) rest
    ∙ ap (λ (l : List Delivery). c.deliveries.effects.items ++ map (Deliver c.args.consumer) l)
    (sym c.in-Some.ensures.items) ∙ c.deliveries.invariant

pub returns-clause-ok : goal.returns-clause-ok
returns-clause-ok c =
    let none : c.deliveries.rest.items ≡ [] =
    nil-of c.deliveries.rest.items (c.in_default.ensures.items ∙ c.in_default.ensures.rest) in
    sym (append-nil c.deliveries.effects.items)
    ∙ ap (λ (l : List Delivery). c.deliveries.effects.items ++ map (Deliver c.args.consumer) l) (sym none)
    ∙ c.deliveries.invariant
    ∙ ap (λ (l : List Delivery). c.args.effects.now.items ++ map (Deliver c.args.consumer) l)
    c.from_vec-rest.ensures.items
