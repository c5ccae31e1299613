-- The consumers of a session leave a table one by one, and give back what they have.
use Rattle.std.proofs.Common.{◌≡◌, ℕ, ◌<◌, ◌≤◌, Bool, true, false, not, List, [], ◌∷◌, Option, Some, None, map, fold, length, refl, sym, ap, ◌∙◌, inl, inr, arith, if◌then◌else◌}
use Rattle.std.specs.Prelude.{filter}
use Rattle.std.specs.List.{AllByRecursion}
use Rattle.std.proofs.lemmas.Bool.{cases_Bool, cond-true, cond-false, cond_both}
use Rattle.qq_base.specs.declared.ids.SessionId.{SessionId}
use Rattle.qq_base.specs.declared.ids.ConsumerId.{ConsumerId}
use Rattle.qq_base.specs.Ids.{same_consumer}
use Rattle.qq_base.proofs.Lists.{In, find-in, AllByRecursion-in}
use Rattle.qq_entry.specs.declared.message.ReadyRow.{ReadyRow}
use Rattle.qq_entry.specs.declared.message.Reason.TheVariants.{DeliveryLimit}
use Rattle.qq_entry.specs.declared.queue.Strategy.{Strategy}
use Rattle.qq_entry.specs.declared.queue.Strategy.TheVariants.{Absent, AtMostOnce, AtLeastOnce}
use Rattle.qq_model.specs.declared.place.Place.{Place}
use Rattle.qq_model.specs.declared.place.Place.TheVariants.{Out}
use Rattle.qq_model.specs.Commands.{is_of_session}
use Rattle.qq_model.proofs.Few.{filter-few}
use Rattle.qq_model.proofs.OneConsumer.{same_consumer-refl}
use Rattle.qq_parts.specs.Reduced.{Item}
use Rattle.qq_parts.specs.Parts.{Served, AreTwo, AreApart}
use Rattle.qq_parts.specs.Changes.{bury, put_back, recounted, is_spent}
use Rattle.qq_parts.specs.Work.{Work, with_parts}
use Rattle.qq_parts.specs.Ends.{parts_return}
use Rattle.qq_parts.specs.Commands.{parts_return_session}
use Rattle.qq_parts.specs.AtOnce.{first_of_session, without_first}
use Rattle.qq_parts.proofs.AtOnce.{goes_first}
use Rattle.qq_consumer.specs.declared.row.ConsumerRow.{ConsumerRow}
use Rattle.qq_consumer.specs.declared.rising.Numbered.{Numbered}
use Rattle.qq_consumer.specs.Roster.{Roster, item_at, out_item, served_of, remove_one, is_one, first_of, is_one_of, end, end_by}
use Rattle.qq_machine.specs.Views.{return_rows}
use Rattle.qq_machine.proofs.Delivering.{with_roster}
use Rattle.qq_machine.proofs.Changing.{roster_in}
use Rattle.qq_machine.proofs.Finishing.{return-place}

-- what is out goes back, wherever it is
rows-back : (place : Place) (id : ConsumerId) (rows : List (Numbered ReadyRow)) (t : Work)
    → fold (λ (now : Work) (x : Item). parts_return x now) t (map (out_item id) rows) ≡ return_rows place rows t
rows-back place id [] t = refl
rows-back place id (one ∷ rows) t =
    ap (λ (w : Work). fold (λ (now : Work) (x : Item). parts_return x now) w (map (out_item id) rows))
    (sym (return-place place (item_at (Out id one.number) one.item) t))
    ∙ rows-back place id rows (parts_return (item_at place one.item) t)

keeps-others : (first : Served) (ones : List Served) → AllByRecursion (AreTwo first) ones
    → remove_one first.consumer.id ones ≡ ones
keeps-others first [] two = refl
keeps-others first (one ∷ ones) two =
    cond-true (not (same_consumer one.consumer.id first.consumer.id)) (one ∷ remove_one first.consumer.id ones)
    (remove_one first.consumer.id ones) (ap not two.0.1)
    ∙ ap (λ (ks : List Served). one ∷ ks) (keeps-others first ones two.1)

some-one : (a b : Served) → Some a ≡ Some b → a ≡ b
some-one a b is = cc

-- the first of a session is the only one of its id
removes : (session : SessionId) (one : Served) (ones : List Served) → AreApart ones
    → first_of_session session ones ≡ Some one → remove_one one.consumer.id ones ≡ without_first session ones
removes session one [] apart found = absurd cc
removes session one (first ∷ ones) apart found = elim (cases_Bool (is_of_session session first.consumer)) [
  | inl of ↦
      let same : first ≡ one =
      some-one first one (sym (cond-true (is_of_session session first.consumer) (Some first)
      (first_of_session session ones) of) ∙ found) in
      ap (λ (k : Served). remove_one k.consumer.id (first ∷ ones)) (sym same)
      ∙ cond-false (not (same_consumer first.consumer.id first.consumer.id))
      (first ∷ remove_one first.consumer.id ones) (remove_one first.consumer.id ones)
      (ap not (same_consumer-refl first.consumer.id))
      ∙ keeps-others first ones apart.0
      ∙ sym (cond-true (is_of_session session first.consumer) ones (first ∷ without_first session ones) of)
  | inr other ↦
      let later : first_of_session session ones ≡ Some one =
      sym (cond-false (is_of_session session first.consumer) (Some first) (first_of_session session ones) other)
      ∙ found in
      let here : In one ones =
      (find-in (λ (k : Served). is_of_session session k.consumer) ones one later).0 in
      cond-true (not (same_consumer first.consumer.id one.consumer.id))
      (first ∷ remove_one one.consumer.id ones) (remove_one one.consumer.id ones)
      (ap not (AllByRecursion-in (AreTwo first) one ones apart.0 here).0)
      ∙ ap (λ (ks : List Served). first ∷ ks) (removes session one ones apart.1 later)
      ∙ sym (cond-false (is_of_session session first.consumer) ones (first ∷ without_first session ones) other)
]

-- one leaves, and the others are to leave
pub leaves : (session : SessionId) (row : ConsumerRow) (t : Work) (r : Roster) (place : Place) (new : Work)
    → AreApart t.parts.served → Some (served_of row) ≡ first_of_session session t.parts.served
    → r ≡ end session (roster_in t) → return_rows place row.out.items (with_roster r t) ≡ new
    → parts_return_session session t ≡ parts_return_session session new
leaves session row t r place new apart first made back =
    let one : Served = served_of row in
    let left : r ≡ record (roster_in t) { served = without_first session t.parts.served } =
    made ∙ ap (λ (o : Option Served). end_by o (roster_in t)) (sym first)
    ∙ ap (λ (ones : List Served). record (roster_in t) { served = ones })
    (removes session one t.parts.served apart (sym first)) in
    goes_first session one t (sym first)
    ∙ ap (parts_return_session session)
    (rows-back place row.consumer.id row.out.items
    (with_parts (record (t.parts) { served = without_first session t.parts.served }) t)
    ∙ ap (λ (q : Roster). return_rows place row.out.items (with_roster q t)) (sym left) ∙ back)

-- nobody is left
pub nobody-left : (session : SessionId) (t : Work) (r : Roster) → first_of_session session t.parts.served ≡ None
    → r ≡ end session (roster_in t) → with_roster r t ≡ t
nobody-left session t r none made =
    ap (λ (q : Roster). with_roster q t) (made ∙ ap (λ (o : Option Served). end_by o (roster_in t)) none)

-- Fewer consumers are left ----------------------------------------------------------------------------

return-stays : (x : Item) (t : Work) → (parts_return x t).parts.served ≡ t.parts.served
return-stays x t = by (is_spent t.parts x) t.parts.rest.args.strategy t.parts.rest.args.delivery_limit
  where
    by : (dies : Bool) (strategy : Strategy) (limit : Option ℕ)
        → (if dies then bury strategy DeliveryLimit (recounted x) t.parts
        else put_back limit (recounted x) t.parts).served ≡ t.parts.served
    by true Absent limit = refl
    by true AtMostOnce limit = refl
    by true AtLeastOnce limit = refl
    by false strategy None = refl
    by false strategy (Some limit) = refl

rows-stay : (place : Place) (rows : List (Numbered ReadyRow)) (t : Work)
    → (return_rows place rows t).parts.served ≡ t.parts.served
rows-stay place [] t = refl
rows-stay place (one ∷ rows) t =
    rows-stay place rows (parts_return (item_at place one.item) t) ∙ return-stays (item_at place one.item) t

filter-fewer : {A : Type 0} (keeps : A → Bool) (x : A) (xs : List A) → In x xs → keeps x ≡ false
    → length (filter keeps xs) < length xs
filter-fewer keeps x [] here goes = absurd here
filter-fewer keeps x (y ∷ ys) (inl same) goes =
    let gone : length (filter keeps (y ∷ ys)) ≡ length (filter keeps ys) =
    ap length (cond-false (keeps y) (y ∷ filter keeps ys) (filter keeps ys) (ap keeps (sym same) ∙ goes)) in
    let few : length (filter keeps ys) ≤ length ys = filter-few keeps ys in
    omega (arith, gone, few)
filter-fewer {A = A} keeps x (y ∷ ys) (inr later) goes =
    let rest : length (filter keeps ys) < length ys = filter-fewer keeps x ys later goes in
    cond_both (keeps y) (y ∷ filter keeps ys) (filter keeps ys) (λ (zs : List A). length zs < length (y ∷ ys))
    (λ _. omega (arith, rest)) (λ _. omega (arith, rest))

-- one has left, and what it had has gone back
pub fewer : (session : SessionId) (row : ConsumerRow) (place : Place) (t new : Work) (old r : Roster)
    → Some (served_of row) ≡ first_of session old.served → r ≡ end session old
    → return_rows place row.out.items (with_roster r t) ≡ new → length new.parts.served < length old.served
fewer session row place t new old r first made back =
    let one : Served = served_of row in
    let left : new.parts.served ≡ remove_one one.consumer.id old.served =
    ap (λ (w : Work). w.parts.served) (sym back) ∙ rows-stay place row.out.items (with_roster r t)
    ∙ ap (λ (q : Roster). q.served) made ∙ ap (λ (o : Option Served). (end_by o old).served) (sym first) in
    let here : In one old.served = (find-in (is_one_of session) old.served one (sym first)).0 in
    let few : length (remove_one one.consumer.id old.served) < length old.served =
    filter-fewer (λ (k : Served). not (is_one one.consumer.id k)) one old.served here
    (ap not (same_consumer-refl one.consumer.id)) in
    let same : length new.parts.served ≡ length (remove_one one.consumer.id old.served) = ap length left in
    omega (arith, same, few)
