use Rattle.std.proofs.Common.{◌≡◌, ◌∷◌, [], ◌++◌, List, map, sym, ap, ◌∙◌, append_assoc, append-nil}
use Rattle.qq_entry.specs.declared.answer.Delivery.{Delivery}
use Rattle.qq_taker.specs.declared.handed.Handed.{Handed}
use Rattle.qq_queue.specs.Waiting.{handed_to}
use Rattle.qq_queue.proofs.Offering.{nil-of}
use Rattle.qq_queue.proofs.untold.Untold.push_all.Goals as goal

pub deliveries-preserved : goal.deliveries-preserved
deliveries-preserved c =
    let rows : List Handed = c.deliveries.self-inside.rows.items in
    let rest : List Handed = map (handed_to c.args.consumer) c.pop_front.new.self.items in
    ap (λ (l : List Handed). l ++ rest) c.in_ok-push_back.ensures.items
    ∙ append_assoc rows (handed_to c.args.consumer c.in-Some.delivery ∷ []) rest
    ∙ ap (λ (l : List Delivery). rows ++ map (handed_to c.args.consumer) l) (sym c.in-Some.ensures.items)
    ∙ c.deliveries.invariant

pub returns-clause-ok : goal.returns-clause-ok
returns-clause-ok c =
    let rows : List Handed = c.deliveries.self-inside.rows.items in
    let none' : c.deliveries.rest.items ≡ [] =
    nil-of c.deliveries.rest.items (c.in_default.ensures.items ∙ c.in_default.ensures.rest) in
    sym (append-nil rows)
    ∙ ap (λ (l : List Delivery). rows ++ map (handed_to c.args.consumer) l) (sym none')
    ∙ c.deliveries.invariant
    ∙ ap (λ (l : List Handed). l ++ map (handed_to c.args.consumer) c.from_vec-rest.result.items) c.self.view_is
    ∙ ap (λ (l : List Delivery). c.args.self.now ++ map (handed_to c.args.consumer) l) c.from_vec-rest.ensures.items
