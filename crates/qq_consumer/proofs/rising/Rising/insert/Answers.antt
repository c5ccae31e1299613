use Rattle.std.proofs.Common.{sym, ap, ◌∙◌, subst, arith}
use Rattle.std.specs.Prelude.{insert}
use Rattle.qq_consumer.specs.declared.rising.Numbered.{Numbered}
use Rattle.qq_consumer.specs.Numbers.{RisingList, Rises, IsFree, with_item}
use Rattle.qq_consumer.proofs.Places.{place-within, insert-is, rises-with}
use Rattle.qq_consumer.proofs.rising.Rising.insert.Goals as goal

pub insert-requires : goal.insert-requires
insert-requires g c =
    let within = place-within c.args.number c.self.inside.rows.items in omega (arith, within, c.place_in-place.ensures)

pub invariant_of-self-2 : goal.invariant_of-self-2
invariant_of-self-2 g c =
    let rows = c.self.inside.rows.items in
    let one : Numbered _ = record { number = c.args.number; item = c.args.item } in
    record {
      now =
          subst (λ xs. Rises xs)
          (sym (c.in_ok-insert.ensures.items ∙ ap (λ k. insert rows k one) c.place_in-place.ensures ∙ insert-is one rows))
          (rises-with one rows c.self.invariant.now
          (subst (λ xs. IsFree c.args.number xs) (sym (ap (λ (r : RisingList _). r.items) c.self.view_is))
          c.requires.free));
      before = subst (λ xs. Rises xs) (sym c.in_ok-insert.ensures.base) c.self.invariant.before;
    }

pub returns-clause-items : goal.returns-clause-items
returns-clause-items g c =
    let rows = c.self.inside.rows.items in
    let one : Numbered _ = record { number = c.args.number; item = c.args.item } in
    c.in_ok-insert.ensures.items ∙ ap (λ k. insert rows k one) c.place_in-place.ensures ∙ insert-is one rows
    ∙ ap (λ (r : RisingList _). with_item one r.items) c.self.view_is
