use Rattle.std.proofs.Common.{◌≡◌, ◌<◌, List, Option, Some, IfSome, map, refl, sym, ap, ◌∙◌, subst}
use Rattle.indexmap.specs.IndexMap.{spare}
use Rattle.qq_base.specs.declared.ids.ConsumerId.{ConsumerId}
use Rattle.qq_parts.specs.Parts.{Served}
use Rattle.qq_consumer.specs.declared.seat.Seat.{Seat}
use Rattle.qq_consumer.specs.Numbers.{AreBelow}
use Rattle.qq_consumer.specs.Roster.{out_item, one_of, put_one}
use Rattle.qq_consumer.specs.Joined.{JoinedState, CanGoBack, undone, base_one, seat_one}
use Rattle.qq_consumer.proofs.JoinedRows.{absent-changes, found-one, found-own, write-changes, write-bases, write-back}
use Rattle.qq_consumer.proofs.joined.Joined.put.Goals as goal

pub returns-in_default-clause-served : goal.returns-in_default-clause-served
returns-in_default-clause-served c =
    absent-changes c.args.new.id c.self.inside.rows c.get_mut.follows.lender-at-none c.self.invariant.joined
    (λ (one : Served). record { consumer = c.args.new; out = one.out }) c.get_mut.follows.holds-at-none
    c.in_default.ensures.value
    ∙ ap (λ (j : JoinedState). put_one c.args.new j.served) c.self.view_is

pub invariant_of-self-2 : goal.invariant_of-self-2
invariant_of-self-2 c =
    let seat : Seat = c.in-Some.seat.now in
    let w : Seat = record { row = record { consumer = c.args.new; out = seat.row.out }; base = seat.base } in
    let own : seat.row.consumer.id ≡ c.args.new.id =
    found-own c.args.new.id c.self.inside.rows.entries seat c.self.invariant.joined.ids (sym c.in-Some.ensures.value) in
    let one : one_of c.args.new.id c.args.self.now.served ≡ Some (seat_one seat) =
    ap (λ (j : JoinedState). one_of c.args.new.id j.served) (sym c.self.view_is)
    ∙ found-one c.args.new.id c.self.inside.rows c.self.inside.rows c.self.invariant.joined seat c.in-Some.ensures.value in
    let next : c.args.new.next_id ≡ seat.row.consumer.next_id =
    subst (λ (o : Option Served). IfSome o (λ x. c.args.new.next_id ≡ x.consumer.next_id)) one c.requires in
    subst (λ (ts : List ConsumerId). CanGoBack (c.get_mut.follows.lender w).entries c.self.inside.journal.items ts
    (spare (c.get_mut.follows.lender w))) (sym c.in_ok-push_front.ensures.items)
    (write-back c.args.new.id c.self.inside.rows (c.get_mut.follows.lender w) c.self.invariant.joined seat w
    c.in-Some.ensures.value (c.get_mut.follows.holds w) c.self.inside.journal.items c.self.inside.touched.items c.self.invariant
    (sym own) (λ given. record {
      rising = given.rising;
      below = subst (λ n. AreBelow n seat.row.out.items) (sym next) given.below;
      first = subst (λ n. 0 < n) (sym next) given.first;
    }) refl refl)

pub returns-clause-served : goal.returns-clause-served
returns-clause-served c =
    let seat : Seat = c.in-Some.seat.now in
    let w : Seat = record { row = record { consumer = c.args.new; out = seat.row.out }; base = seat.base } in
    let own : seat.row.consumer.id ≡ c.args.new.id =
    found-own c.args.new.id c.self.inside.rows.entries seat c.self.invariant.joined.ids (sym c.in-Some.ensures.value) in
    write-changes c.args.new.id c.self.inside.rows (c.get_mut.follows.lender w) c.self.invariant.joined seat w
    c.in-Some.ensures.value (c.get_mut.follows.holds w)
    (λ (one : Served). record { consumer = c.args.new; out = one.out })
    (ap (λ (i : ConsumerId). let one : Served = record {
      consumer = c.args.new;
      out = map (out_item i) seat.row.out.items;
    } in one)
    (sym own))
    ∙ ap (λ (j : JoinedState). put_one c.args.new j.served) c.self.view_is

pub returns-clause-base : goal.returns-clause-base
returns-clause-base c =
    let seat : Seat = c.in-Some.seat.now in
    let w : Seat = record { row = record { consumer = c.args.new; out = seat.row.out }; base = seat.base } in
    ap (undone base_one c.self.inside.journal.items)
    (write-bases c.args.new.id c.self.inside.rows (c.get_mut.follows.lender w) c.self.invariant.joined seat w
    c.in-Some.ensures.value (c.get_mut.follows.holds w) refl)
    ∙ ap (λ (j : JoinedState). j.base) c.self.view_is
