use Rattle.std.proofs.Common.{sym, ◌∙◌, arith}
use Rattle.qq_live.proofs.Places.{is-there, place-most}
use Rattle.qq_live.proofs.Changes.{gains-set, gains-insert, there-most}
use Rattle.qq_live.proofs.slot.add_holder.Goals as goal

pub overflow_add-holders : goal.overflow_add-holders
overflow_add-holders c =
    let most = there-most c.args.index c.place_of-place.result c.in-Some.holders c.args.slots.now.items
    (sym c.holders_at.ensures ∙ c.in-Some.is) in
    omega (arith, most, c.requires.count)

pub put_at-requires : goal.put_at-requires
put_at-requires c =
    (is-there c.args.index c.place_of-place.result c.in-Some.holders c.args.slots.now.items
    (sym c.holders_at.ensures ∙ c.in-Some.is)).within

pub insert_at-requires-clause-place : goal.insert_at-requires-clause-place
insert_at-requires-clause-place c =
    let most = place-most c.args.index c.args.slots.now.items in
    omega (arith, most, c.place_of-place.ensures, c.args.slots.now.ok.0)

pub returns-in-Some-clause-gains : goal.returns-in-Some-clause-gains
returns-in-Some-clause-gains c =
    gains-set c.args.index c.in-Some.holders c.place_of-place.result c.args.slots.now.items c.put_at.new.slots.items
    c.requires.slots c.place_of-place.ensures (sym c.holders_at.ensures ∙ c.in-Some.is) c.put_at.ensures.items

pub returns-in-None-clause-gains : goal.returns-in-None-clause-gains
returns-in-None-clause-gains c =
    gains-insert c.args.index c.place_of-place.result c.args.slots.now.items c.insert_at.new.slots.items
    c.requires.slots c.place_of-place.ensures (sym c.holders_at.ensures ∙ c.in-None.is) c.insert_at.ensures.items
