use Rattle.std.proofs.Common.{sym, ap, ◌∙◌, arith}
use Rattle.std.specs.Prelude.{insert, ℕ}
use Rattle.qq_cluster.specs.Active.{is_at, place_of}
use Rattle.qq_cluster.proofs.Rising.{place-most, put-new, put-there}
use Rattle.qq_cluster.proofs.active.put_in.Goals as goal

pub returns-then-there-clause-ok : goal.returns-then-there-clause-ok
returns-then-there-clause-ok c =
    put-there c.args.number c.args.numbers.now.items
    (ap (λ (k : ℕ). is_at c.args.number k c.args.numbers.now.items)
    (sym (c.place_of-place.ensures ∙ ap (place_of c.args.number) c.deref.ensures.value))
    ∙ ap (is_at c.args.number c.place_of-place.result) (sym c.deref-2.ensures.value)
    ∙ sym c.is_at-there.ensures ∙ c.if-there.true)

pub insert-requires : goal.insert-requires
insert-requires c =
    let most = place-most c.args.number c.args.numbers.now.items in
    let place = c.place_of-place.ensures ∙ ap (place_of c.args.number) c.deref.ensures.value in
    omega (arith, most, place, c.args.numbers.now.ok.0)

pub returns-clause-ok : goal.returns-clause-ok
returns-clause-ok c =
    c.in_ok-insert.ensures.items
    ∙ ap (λ (k : ℕ). insert c.args.numbers.now.items k c.args.number)
    (c.place_of-place.ensures ∙ ap (place_of c.args.number) c.deref.ensures.value)
    ∙ put-new c.args.number c.args.numbers.now.items
    (ap (λ (k : ℕ). is_at c.args.number k c.args.numbers.now.items)
    (sym (c.place_of-place.ensures ∙ ap (place_of c.args.number) c.deref.ensures.value))
    ∙ ap (is_at c.args.number c.place_of-place.result) (sym c.deref-2.ensures.value)
    ∙ sym c.is_at-there.ensures ∙ c.if-there.false)
