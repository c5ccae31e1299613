use Rattle.std.proofs.Common.{◌≡◌, List, Option, None, IfSome, ◌++◌, refl, sym, ap, ◌∙◌, subst}
use Rattle.std.proofs.lemmas.Result.{on_ok_weaker}
use Rattle.std.specs.Option.{option_map}
use Rattle.indexmap.specs.IndexMap.{spare}
use Rattle.qq_base.specs.declared.ids.ConsumerId.{ConsumerId}
use Rattle.qq_model.specs.declared.consumer.Consumer.{Consumer}
use Rattle.qq_parts.specs.Parts.{Served}
use Rattle.qq_consumer.specs.declared.seat.Seat.{Seat}
use Rattle.qq_consumer.specs.Roster.{one_of, put_rest, cut_rest, taken_rows}
use Rattle.qq_consumer.specs.Joined.{JoinedState, CanGoBack, undone, base_one, seat_one}
use Rattle.qq_consumer.proofs.JoinedRows.{one_of-lookup, absent-changes, found-one, found-given, write-changes, write-bases, write-back}
use Rattle.qq_consumer.proofs.GoingBack.{served}
use Rattle.qq_consumer.proofs.joined.Joined.take_ids.Goals as goal

if-none : {A : Type 0} (o : Option A) (P : A → Type 0) → o ≡ None → IfSome o P
if-none o P is = subst (λ x. IfSome x P) (sym is) tt

pub returns-in_default-clause-rows : goal.returns-in_default-clause-rows
returns-in_default-clause-rows c =
    if-none _ _
    (sym (ap (option_map seat_one) c.in_default.ensures.value
    ∙ one_of-lookup c.args.id c.self.inside.rows.entries c.self.invariant.joined.ids
    ∙ ap (λ (j : JoinedState). one_of c.args.id j.served) c.self.view_is))

pub returns-in_default-clause-served : goal.returns-in_default-clause-served
returns-in_default-clause-served c =
    absent-changes c.args.id c.self.inside.rows c.get_mut.follows.lender-at-none c.self.invariant.joined
    (λ (one : Served). record { consumer = one.consumer; out = cut_rest c.args.ids.now one.out })
    c.get_mut.follows.holds-at-none c.in_default.ensures.value
    ∙ ap (λ (j : JoinedState). put_rest c.args.id c.args.ids.now j.served) c.self.view_is

pub take_ids-requires : goal.take_ids-requires
take_ids-requires c = record {
  given =
      found-given c.args.id c.self.inside.rows.entries c.in-Some.seat.now c.self.invariant.joined.out
      (sym c.in-Some.ensures.value);
}

pub invariant_of-self-2 : goal.invariant_of-self-2
invariant_of-self-2 c =
    let seat : Seat = c.in-Some.seat.now in
    let w : Seat = record { row = c.take_ids.new.row; base = seat.base } in
    subst (λ (ts : List ConsumerId). CanGoBack (c.get_mut.follows.lender w).entries c.self.inside.journal.items ts
    (spare (c.get_mut.follows.lender w))) (sym c.in_ok-push_front.ensures.items)
    (write-back c.args.id c.self.inside.rows (c.get_mut.follows.lender w) c.self.invariant.joined seat w
    c.in-Some.ensures.value (c.get_mut.follows.holds w) c.self.inside.journal.items c.self.inside.touched.items c.self.invariant
    (ap (λ (k : Consumer). k.id) c.take_ids.ensures.consumer) (λ given. c.take_ids.ensures.given) refl c.take_ids.ensures.base)

pub returns-clause-rows : goal.returns-clause-rows
returns-clause-rows c =
    on_ok_weaker c.take_ids.result (λ rows.
    subst (λ (o : Option Served). IfSome o (λ one.
    c.take_ids.new.rows.items ≡ c.args.rows.now.items ++ taken_rows c.args.ids.now one))
    (sym (found-one c.args.id c.self.inside.rows c.self.inside.rows c.self.invariant.joined c.in-Some.seat.now
    c.in-Some.ensures.value) ∙ ap (λ (j : JoinedState). one_of c.args.id j.served) c.self.view_is)
    rows)
    c.take_ids.ensures.rows

pub returns-clause-served : goal.returns-clause-served
returns-clause-served c =
    let seat : Seat = c.in-Some.seat.now in
    let w : Seat = record { row = c.take_ids.new.row; base = seat.base } in
    on_ok_weaker c.take_ids.result (λ one.
    write-changes c.args.id c.self.inside.rows (c.get_mut.follows.lender w) c.self.invariant.joined seat w
    c.in-Some.ensures.value (c.get_mut.follows.holds w)
    (λ (o : Served). record { consumer = o.consumer; out = cut_rest c.args.ids.now o.out }) one
    ∙ ap (λ (j : JoinedState). put_rest c.args.id c.args.ids.now j.served) c.self.view_is)
    c.take_ids.ensures.one

pub returns-clause-base : goal.returns-clause-base
returns-clause-base c =
    let seat : Seat = c.in-Some.seat.now in
    let w : Seat = record { row = c.take_ids.new.row; base = seat.base } in
    ap (undone base_one c.self.inside.journal.items)
    (write-bases c.args.id c.self.inside.rows (c.get_mut.follows.lender w) c.self.invariant.joined seat w
    c.in-Some.ensures.value (c.get_mut.follows.holds w) (ap (served seat.base) c.take_ids.ensures.base))
    ∙ ap (λ (j : JoinedState). j.base) c.self.view_is
