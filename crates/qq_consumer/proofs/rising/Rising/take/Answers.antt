use Rattle.std.proofs.Common.{◌≡◌, sym, ap, ◌∙◌, subst}
use Rattle.std.specs.Option.{option_map}
use Rattle.qq_consumer.specs.Numbers.{RisingList, Rises, item_of, item_by, without}
use Rattle.qq_consumer.proofs.Places.{placed, at-own, at-within, taken-items, taken-value, rises-without}
use Rattle.qq_consumer.proofs.rising.Rising.take.Goals as goal

pub returns-then-not-is_at-clause-value : goal.returns-then-not-is_at-clause-value
returns-then-not-is_at-clause-value g c =
    let rows = c.self.inside.rows.items in
    sym (ap (option_map item_of) ((placed c.args.number rows c.self.invariant.now).absent
    (at-own c.args.number rows c.place_in-place.result c.place_in-place.ensures
    (sym c.is_at.ensures ∙ c.if-not-is_at.true))))
    ∙ ap (λ (r : RisingList _). item_by c.args.number r.items) c.self.view_is

pub returns-then-not-is_at-clause-items : goal.returns-then-not-is_at-clause-items
returns-then-not-is_at-clause-items g c =
    let rows = c.self.inside.rows.items in
    subst (λ (r : RisingList _). r.items ≡ without c.args.number r.items) c.self.view_is
    (sym ((placed c.args.number rows c.self.invariant.now).stays
    (at-own c.args.number rows c.place_in-place.result c.place_in-place.ensures
    (sym c.is_at.ensures ∙ c.if-not-is_at.true))))

pub remove-requires : goal.remove-requires
remove-requires g c =
    at-within c.args.number c.place_in-place.result c.self.inside.rows.items
    (sym c.is_at.ensures ∙ c.if-not-is_at.false)

pub invariant_of-self-2 : goal.invariant_of-self-2
invariant_of-self-2 g c =
    let rows = c.self.inside.rows.items in
    record {
      now =
          subst (λ xs. Rises xs)
          (taken-items c.args.number rows c.place_in-place.result c.self.invariant.now c.place_in-place.ensures
          (sym c.is_at.ensures ∙ c.if-not-is_at.false) ∙ sym c.in_ok-one.ensures.items)
          (rises-without c.args.number rows c.self.invariant.now);
      before = subst (λ xs. Rises xs) (sym c.in_ok-one.ensures.base) c.self.invariant.before;
    }

pub returns-clause-value : goal.returns-clause-value
returns-clause-value g c =
    let rows = c.self.inside.rows.items in
    ap (option_map item_of) (sym c.in_ok-one.ensures.value
    ∙ taken-value c.args.number rows c.place_in-place.result c.self.invariant.now c.place_in-place.ensures
    (sym c.is_at.ensures ∙ c.if-not-is_at.false))
    ∙ ap (λ (r : RisingList _). item_by c.args.number r.items) c.self.view_is

pub returns-clause-items : goal.returns-clause-items
returns-clause-items g c =
    let rows = c.self.inside.rows.items in
    c.in_ok-one.ensures.items
    ∙ sym (taken-items c.args.number rows c.place_in-place.result c.self.invariant.now c.place_in-place.ensures
    (sym c.is_at.ensures ∙ c.if-not-is_at.false))
    ∙ ap (λ (r : RisingList _). without c.args.number r.items) c.self.view_is
