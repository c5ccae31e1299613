-- The consumers of rows under their ids: what is found, changed, removed and added.
use Rattle.std.proofs.Common.{◌≡◌, ◌⊎◌, ◌<◌, ◌≤◌, ◌-◌, Bool, true, false, not, ◌&&◌, ℕ, List, [], ◌∷◌, ◌++◌, Option, Some, None, map, refl, sym, ap, ◌∙◌, subst, inl, inr, arith}
use Rattle.std.specs.Prelude.{filter, length, nat_eq, is_some, if◌then◌else◌}
use Rattle.std.specs.List.{AllByRecursion, IsDistinct}
use Rattle.std.specs.Option.{option_map}
use Rattle.std.specs.Map.{keys_of, lookup, set_value, remove_entry}
use Rattle.indexmap.specs.IndexMap.{IndexMap, get, spare, WritesThrough}
use Rattle.std.specs.Cmp.{nat_eq_equiv}
use Rattle.std.proofs.lemmas.Bool.{false≢true, cases_Bool, cond-true, cond-false, cond_both, not_from_true, not_from_false}
use Rattle.qq_base.specs.declared.ids.SessionId.{SessionId}
use Rattle.qq_base.specs.declared.ids.ConsumerId.{ConsumerId}
use Rattle.qq_base.specs.Ids.{same_session, same_consumer}
use Rattle.qq_entry.specs.declared.message.ReadyRow.{ReadyRow}
use Rattle.qq_base.proofs.Lists.{AllByRecursion-map, AllByRecursion-weaker}
use Rattle.qq_model.specs.declared.consumer.Consumer.{Consumer}
use Rattle.qq_model.specs.declared.place.Place.TheVariants.{Out}
use Rattle.qq_model.proofs.OneConsumer.{same_consumer-true}
use Rattle.qq_parts.specs.Reduced.{Item}
use Rattle.qq_parts.specs.Parts.{Served, HasOut, NumbersRise, IsPlaced, item_number, AreTwo, AreApart}
use Rattle.qq_parts.specs.Outs.{hand_to, serve_one}
use Rattle.qq_consumer.specs.declared.rising.Numbered.{Numbered}
use Rattle.qq_consumer.specs.declared.row.ConsumerRow.{ConsumerRow}
use Rattle.qq_consumer.specs.declared.seat.Seat.{Seat}
use Rattle.qq_consumer.specs.declared.step.Step.{Step}
use Rattle.qq_consumer.specs.Numbers.{Rises, without}
use Rattle.qq_consumer.proofs.Places.{rises-without, each-without}
use Rattle.qq_consumer.specs.Roster.{served_of, out_item, is_one, one_of, is_there}
use Rattle.qq_consumer.specs.Joined.{Entry, seat_one, base_one, seen, ones_of, bases_of, HasOwnId, IsGiven, AreGiven, HoldsOut, HoldsBase, IsTracked, CanUndo, base_id, AreJoined, CanGoBack}

-- ---- ids

same_session-symm : (a b : SessionId) → same_session a b ≡ same_session b a
same_session-symm a b =
    ap (λ (t : Bool). t && nat_eq a.owner b.owner && nat_eq a.number b.number) (nat_eq_equiv.symm a.class b.class)
    ∙ ap (λ (t : Bool). nat_eq b.class a.class && t && nat_eq a.number b.number) (nat_eq_equiv.symm a.owner b.owner)
    ∙ ap (λ (t : Bool). nat_eq b.class a.class && nat_eq b.owner a.owner && t) (nat_eq_equiv.symm a.number b.number)

pub same_consumer-symm : (a b : ConsumerId) → same_consumer a b ≡ same_consumer b a
same_consumer-symm a b =
    ap (λ (t : Bool). t && nat_eq a.tag b.tag) (same_session-symm a.session b.session)
    ∙ ap (λ (t : Bool). same_session b.session a.session && t) (nat_eq_equiv.symm a.tag b.tag)

-- the test of a row's id, as the parts and the map ask it
asked : (id : ConsumerId) (e : Entry) → HasOwnId e → same_consumer e.1.row.consumer.id id ≡ same_consumer id e.0
asked id e own = same_consumer-symm e.1.row.consumer.id id ∙ ap (same_consumer id) (sym own)

-- ---- what is found

pub one_of-lookup : (id : ConsumerId) (es : List Entry) → AllByRecursion HasOwnId es
    → option_map seat_one (lookup (same_consumer id) es) ≡ one_of id (ones_of es)
one_of-lookup id [] own = refl
one_of-lookup id (e ∷ es) own =
    elim (cases_Bool (same_consumer id e.0)) [
      | inl here ↦
          ap (option_map seat_one) (cond-true (same_consumer id e.0) (Some e.1) (lookup (same_consumer id) es) here)
          ∙ sym (cond-true (same_consumer e.1.row.consumer.id id) (Some (seat_one e.1)) (one_of id (ones_of es))
          (asked id e own.0 ∙ here))
      | inr other ↦
          ap (option_map seat_one) (cond-false (same_consumer id e.0) (Some e.1) (lookup (same_consumer id) es) other)
          ∙ one_of-lookup id es own.1
          ∙ sym (cond-false (same_consumer e.1.row.consumer.id id) (Some (seat_one e.1)) (one_of id (ones_of es))
          (asked id e own.0 ∙ other))
    ]

is_some-map : {A B : Type 0} (f : A → B) (o : Option A) → is_some (option_map f o) ≡ is_some o
is_some-map f None = refl
is_some-map f (Some x) = refl

pub is_there-lookup : (id : ConsumerId) (es : List Entry) → AllByRecursion HasOwnId es
    → is_there id (ones_of es) ≡ is_some (lookup (same_consumer id) es)
is_there-lookup id es own =
    sym (ap is_some (one_of-lookup id es own)) ∙ is_some-map seat_one (lookup (same_consumer id) es)

none-is : {A : Type 0} (o : Option A) → is_some o ≡ false → o ≡ None
none-is None e = refl
none-is (Some x) e = absurd (false≢true (sym e))

pub absent-free : (id : ConsumerId) (es : List Entry) → AllByRecursion HasOwnId es
    → is_there id (ones_of es) ≡ false → lookup (same_consumer id) es ≡ None
absent-free id es own free =
    none-is (lookup (same_consumer id) es) (sym (is_there-lookup id es own) ∙ free)

-- ---- changes

-- the consumer of an id changes
abbrev pub change_by : ConsumerId → (Served → Served) → List Served → List Served
change_by id f ones = map (λ (one : Served). if is_one id one then f one else one) ones

-- where no row has the id, nothing changes
pub unchanged : (id : ConsumerId) (f : Served → Served) (es : List Entry) → AllByRecursion HasOwnId es
    → lookup (same_consumer id) es ≡ None → change_by id f (ones_of es) ≡ ones_of es
unchanged id f [] own none = refl
unchanged id f (e ∷ es) own none =
    elim (cases_Bool (same_consumer id e.0)) [
      | inl here ↦
          let is : Some e.1 ≡ None =
          sym (cond-true (same_consumer id e.0) (Some e.1) (lookup (same_consumer id) es) here) ∙ none in
          absurd cc
      | inr other ↦
          ap (λ (one : Served). one ∷ change_by id f (ones_of es))
          (cond-false (same_consumer e.1.row.consumer.id id) (f (seat_one e.1)) (seat_one e.1) (asked id e own.0 ∙ other))
          ∙ ap (λ (ones : List Served). seat_one e.1 ∷ ones) (unchanged id f es own.1
          (sym (cond-false (same_consumer id e.0) (Some e.1) (lookup (same_consumer id) es) other) ∙ none))
    ]

-- no later row has the id of one
absent-later : (id : ConsumerId) (e : Entry) (es : List Entry) → IsDistinct same_consumer (keys_of (e ∷ es))
    → same_consumer id e.0 ≡ true → lookup (same_consumer id) es ≡ None
unfolding IsDistinct
absent-later id e es distinct here = by es distinct.0
  where
    by : (fs : List Entry) → AllByRecursion (λ k. same_consumer e.0 k ≡ false) (keys_of fs)
        → lookup (same_consumer id) fs ≡ None
    by [] apart = refl
    by (f ∷ fs) apart =
        cond-false (same_consumer id f.0) (Some f.1) (lookup (same_consumer id) fs)
        (ap (λ (i : ConsumerId). same_consumer i f.0) (same_consumer-true id e.0 here) ∙ apart.0)
        ∙ by fs apart.1

changed : (id : ConsumerId) (f : Served → Served) (es : List Entry) (row w : Seat) → AllByRecursion HasOwnId es
    → IsDistinct same_consumer (keys_of es) → lookup (same_consumer id) es ≡ Some row → seat_one w ≡ f (seat_one row)
    → ones_of (set_value (same_consumer id) es w) ≡ change_by id f (ones_of es)
unfolding IsDistinct
changed id f [] row w own distinct found made = absurd cc
changed id f (e ∷ es) row w own distinct found made =
    elim (cases_Bool (same_consumer id e.0)) [
      | inl here ↦
          let is : Some e.1 ≡ Some row =
          sym (cond-true (same_consumer id e.0) (Some e.1) (lookup (same_consumer id) es) here) ∙ found in
          let same : e.1 ≡ row = cc in
          ap ones_of (cond-true (same_consumer id e.0) ((e.0, w) ∷ es) (e ∷ set_value (same_consumer id) es w) here)
          ∙ ap (λ (one : Served). one ∷ ones_of es) (made ∙ ap (λ (r : Seat). f (seat_one r)) (sym same))
          ∙ sym (ap (λ (one : Served). one ∷ change_by id f (ones_of es))
          (cond-true (same_consumer e.1.row.consumer.id id) (f (seat_one e.1)) (seat_one e.1) (asked id e own.0 ∙ here))
          ∙ ap (λ (ones : List Served). f (seat_one e.1) ∷ ones)
          (unchanged id f es own.1 (absent-later id e es distinct here)))
      | inr other ↦
          ap ones_of (cond-false (same_consumer id e.0) ((e.0, w) ∷ es) (e ∷ set_value (same_consumer id) es w) other)
          ∙ ap (λ (ones : List Served). seat_one e.1 ∷ ones)
          (changed id f es row w own.1 distinct.1
          (sym (cond-false (same_consumer id e.0) (Some e.1) (lookup (same_consumer id) es) other) ∙ found) made)
          ∙ sym (ap (λ (one : Served). one ∷ change_by id f (ones_of es))
          (cond-false (same_consumer e.1.row.consumer.id id) (f (seat_one e.1)) (seat_one e.1)
          (asked id e own.0 ∙ other)))
    ]

-- a delivery is made to the consumer of an id
handed : (turn : ℕ) (x : Item) (id : ConsumerId) (es : List Entry) (row w : Seat) → AllByRecursion HasOwnId es
    → lookup (same_consumer id) es ≡ Some row → seat_one w ≡ serve_one turn x (seat_one row)
    → ones_of (set_value (same_consumer id) es w) ≡ hand_to turn x id (ones_of es)
handed turn x id [] row w own found made = absurd cc
handed turn x id (e ∷ es) row w own found made =
    elim (cases_Bool (same_consumer id e.0)) [
      | inl here ↦
          let is : Some e.1 ≡ Some row =
          sym (cond-true (same_consumer id e.0) (Some e.1) (lookup (same_consumer id) es) here) ∙ found in
          let same : e.1 ≡ row = cc in
          ap ones_of (cond-true (same_consumer id e.0) ((e.0, w) ∷ es) (e ∷ set_value (same_consumer id) es w) here)
          ∙ ap (λ (one : Served). one ∷ ones_of es)
          (made ∙ ap (λ (r : Seat). serve_one turn x (seat_one r)) (sym same))
          ∙ sym (cond-true (same_consumer e.1.row.consumer.id id) (serve_one turn x (seat_one e.1) ∷ ones_of es)
          (seat_one e.1 ∷ hand_to turn x id (ones_of es)) (asked id e own.0 ∙ here))
      | inr other ↦
          ap ones_of (cond-false (same_consumer id e.0) ((e.0, w) ∷ es) (e ∷ set_value (same_consumer id) es w) other)
          ∙ ap (λ (ones : List Served). seat_one e.1 ∷ ones) (handed turn x id es row w own.1
          (sym (cond-false (same_consumer id e.0) (Some e.1) (lookup (same_consumer id) es) other) ∙ found) made)
          ∙ sym (cond-false (same_consumer e.1.row.consumer.id id) (serve_one turn x (seat_one e.1) ∷ ones_of es)
          (seat_one e.1 ∷ hand_to turn x id (ones_of es)) (asked id e own.0 ∙ other))
    ]

-- or to nobody, where no row has the id
absent-handed : (turn : ℕ) (x : Item) (id : ConsumerId) (es : List Entry) → AllByRecursion HasOwnId es
    → lookup (same_consumer id) es ≡ None → hand_to turn x id (ones_of es) ≡ ones_of es
absent-handed turn x id [] own none = refl
absent-handed turn x id (e ∷ es) own none =
    elim (cases_Bool (same_consumer id e.0)) [
      | inl here ↦
          let is : Some e.1 ≡ None =
          sym (cond-true (same_consumer id e.0) (Some e.1) (lookup (same_consumer id) es) here) ∙ none in
          absurd cc
      | inr other ↦
          cond-false (same_consumer e.1.row.consumer.id id) (serve_one turn x (seat_one e.1) ∷ ones_of es)
          (seat_one e.1 ∷ hand_to turn x id (ones_of es)) (asked id e own.0 ∙ other)
          ∙ ap (λ (ones : List Served). seat_one e.1 ∷ ones) (absent-handed turn x id es own.1
          (sym (cond-false (same_consumer id e.0) (Some e.1) (lookup (same_consumer id) es) other) ∙ none))
    ]

-- what holds of each row, and of the one that is written, holds of each
kept-set_value : (P : Entry → Type 0) (id : ConsumerId) (es : List Entry) (w : Seat) → AllByRecursion P es
    → ((e : Entry) → P e → same_consumer id e.0 ≡ true → P (e.0, w)) → AllByRecursion P
    (set_value (same_consumer id) es w)
kept-set_value P id [] w each new = tt
kept-set_value P id (e ∷ es) w each new =
    elim (cases_Bool (same_consumer id e.0)) [
      | inl here ↦
          subst (AllByRecursion P)
          (sym (cond-true (same_consumer id e.0) ((e.0, w) ∷ es) (e ∷ set_value (same_consumer id) es w) here))
          (new e each.0 here, each.1)
      | inr other ↦
          subst (AllByRecursion P)
          (sym (cond-false (same_consumer id e.0) ((e.0, w) ∷ es) (e ∷ set_value (same_consumer id) es w) other))
          (each.0, kept-set_value P id es w each.1 new)
    ]

-- the row of an id has it
pub found-own : (id : ConsumerId) (es : List Entry) (row : Seat) → AllByRecursion HasOwnId es
    → lookup (same_consumer id) es ≡ Some row → row.row.consumer.id ≡ id
found-own id [] row own found = absurd cc
found-own id (e ∷ es) row own found =
    elim (cases_Bool (same_consumer id e.0)) [
      | inl here ↦
          let is : Some e.1 ≡ Some row =
          sym (cond-true (same_consumer id e.0) (Some e.1) (lookup (same_consumer id) es) here) ∙ found in
          let same : e.1 ≡ row = cc in
          ap (λ (r : Seat). r.row.consumer.id) (sym same) ∙ sym own.0 ∙ sym (same_consumer-true id e.0 here)
      | inr other ↦
          found-own id es row own.1
          (sym (cond-false (same_consumer id e.0) (Some e.1) (lookup (same_consumer id) es) other) ∙ found)
    ]

pub found-given : (id : ConsumerId) (es : List Entry) (row : Seat) → AllByRecursion HoldsOut es
    → lookup (same_consumer id) es ≡ Some row → IsGiven row.row
found-given id [] row out found = absurd cc
found-given id (e ∷ es) row out found =
    elim (cases_Bool (same_consumer id e.0)) [
      | inl here ↦
          let is : Some e.1 ≡ Some row =
          sym (cond-true (same_consumer id e.0) (Some e.1) (lookup (same_consumer id) es) here) ∙ found in
          let same : e.1 ≡ row = cc in
          subst (λ (r : Seat). IsGiven r.row) same out.0
      | inr other ↦
          found-given id es row out.1
          (sym (cond-false (same_consumer id e.0) (Some e.1) (lookup (same_consumer id) es) other) ∙ found)
    ]

-- ---- one goes

absent-stays : (id : ConsumerId) (es : List Entry) → AllByRecursion HasOwnId es → lookup (same_consumer id) es ≡ None
    → filter (λ (one : Served). not (is_one id one)) (ones_of es) ≡ ones_of es
absent-stays id [] own none = refl
absent-stays id (e ∷ es) own none =
    elim (cases_Bool (same_consumer id e.0)) [
      | inl here ↦
          let is : Some e.1 ≡ None =
          sym (cond-true (same_consumer id e.0) (Some e.1) (lookup (same_consumer id) es) here) ∙ none in
          absurd cc
      | inr other ↦
          let stays : Served → Bool = λ one. not (is_one id one) in
          cond-true (stays (seat_one e.1)) (seat_one e.1 ∷ filter stays (ones_of es)) (filter stays (ones_of es))
          (not_from_false (same_consumer e.1.row.consumer.id id) (asked id e own.0 ∙ other))
          ∙ ap (λ (ones : List Served). seat_one e.1 ∷ ones) (absent-stays id es own.1
          (sym (cond-false (same_consumer id e.0) (Some e.1) (lookup (same_consumer id) es) other) ∙ none))
    ]

pub removed : (id : ConsumerId) (es : List Entry) → AllByRecursion HasOwnId es → IsDistinct same_consumer (keys_of es)
    → ones_of (remove_entry (same_consumer id) es) ≡ filter (λ (one : Served). not (is_one id one)) (ones_of es)
unfolding IsDistinct
removed id [] own distinct = refl
removed id (e ∷ es) own distinct =
    let stays : Served → Bool = λ one. not (is_one id one) in
    elim (cases_Bool (same_consumer id e.0)) [
      | inl here ↦
          ap ones_of (cond-true (same_consumer id e.0) es (e ∷ remove_entry (same_consumer id) es) here)
          ∙ sym (cond-false (stays (seat_one e.1)) (seat_one e.1 ∷ filter stays (ones_of es))
          (filter stays (ones_of es))
          (not_from_true (same_consumer e.1.row.consumer.id id) (asked id e own.0 ∙ here))
          ∙ absent-stays id es own.1 (absent-later id e es distinct here))
      | inr other ↦
          ap ones_of (cond-false (same_consumer id e.0) es (e ∷ remove_entry (same_consumer id) es) other)
          ∙ ap (λ (ones : List Served). seat_one e.1 ∷ ones) (removed id es own.1 distinct.1)
          ∙ sym (cond-true (stays (seat_one e.1)) (seat_one e.1 ∷ filter stays (ones_of es))
          (filter stays (ones_of es))
          (not_from_false (same_consumer e.1.row.consumer.id id) (asked id e own.0 ∙ other)))
    ]

pub kept-remove_entry : (P : Entry → Type 0) (id : ConsumerId) (es : List Entry) → AllByRecursion P es
    → AllByRecursion P (remove_entry (same_consumer id) es)
kept-remove_entry P id [] each = tt
kept-remove_entry P id (e ∷ es) each =
    cond_both (same_consumer id e.0) es (e ∷ remove_entry (same_consumer id) es) (AllByRecursion P) (λ _. each.1)
    (λ _. (each.0, kept-remove_entry P id es each.1))

-- ---- one joins

pub pushed : (es : List Entry) (e : Entry) → ones_of (es ++ e ∷ []) ≡ ones_of es ++ seat_one e.1 ∷ []
pushed [] e = refl
pushed (x ∷ es) e = ap (λ (ones : List Served). seat_one x.1 ∷ ones) (pushed es e)

-- ---- what holds of all

pub apart-distinct : (es : List Entry) → AllByRecursion HasOwnId es → IsDistinct same_consumer (keys_of es)
    → AreApart (ones_of es)
unfolding IsDistinct
apart-distinct [] own distinct = tt
apart-distinct (e ∷ es) own distinct = (by es own.1 distinct.0, apart-distinct es own.1 distinct.1)
  where
    by : (fs : List Entry) → AllByRecursion HasOwnId fs → AllByRecursion (λ k. same_consumer e.0 k ≡ false) (keys_of fs)
        → AllByRecursion (AreTwo (seat_one e.1)) (ones_of fs)
    by [] own' apart = tt
    by (f ∷ fs) own' apart =
        let first : same_consumer e.1.row.consumer.id f.1.row.consumer.id ≡ false =
        ap (same_consumer e.1.row.consumer.id) (sym own'.0) ∙ ap (λ (i : ConsumerId). same_consumer i f.0) (sym own.0)
        ∙ apart.0 in
        ((first, same_consumer-symm f.1.row.consumer.id e.1.row.consumer.id ∙ first), by fs own'.1 apart.1)

-- what is out may have one less
pub given-still : (id : ℕ) (consumer : Consumer) (xs ys : List (Numbered ReadyRow)) → (ys ≡ without id xs) ⊎ (ys ≡ xs)
    → AreGiven consumer xs → AreGiven consumer ys
given-still id consumer xs ys (inr same) given = subst (AreGiven consumer) (sym same) given
given-still id consumer xs ys (inl is) given =
    subst (AreGiven consumer) (sym is) (record {
      rising = rises-without id xs given.rising;
      below = each-without (λ (x : Numbered ReadyRow). x.number < consumer.next_id) id xs given.below;
      first = given.first;
    })

numbers-rise : (id : ConsumerId) (xs : List (Numbered ReadyRow)) → Rises xs → NumbersRise (map (out_item id) xs)
numbers-rise id [] rising = tt
numbers-rise id (x ∷ xs) rising = (
  AllByRecursion-map (λ (y : Numbered ReadyRow). x.number < y.number) (λ (y : Item). x.number < item_number y)
      (out_item id) xs (λ y less. less) rising.0,
  numbers-rise id xs rising.1,
)

pub given-out : (row : ConsumerRow) → IsGiven row → HasOut (served_of row)
given-out row given = (
  record {
    rising = numbers-rise row.consumer.id row.out.items given.rising;
    each =
        AllByRecursion-map (λ (y : Numbered ReadyRow). y.number < row.consumer.next_id)
        (IsPlaced (λ n. Out row.consumer.id n) (row.consumer.next_id - 1)) (out_item row.consumer.id) row.out.items
        (λ y less. record { place = refl; drawn = omega arith }) given.below;
  },
  given.first,
)

pub all-out : (es : List Entry) → AllByRecursion HoldsOut es → AllByRecursion HasOut (ones_of es)
all-out [] out = tt
all-out (e ∷ es) out = (given-out e.1.row out.0, all-out es out.1)

-- ---- what it was at the last commit

pub found-base : (id : ConsumerId) (es : List Entry) (row : Seat) → AllByRecursion HoldsBase es
    → lookup (same_consumer id) es ≡ Some row → HoldsBase (id, row)
found-base id [] row base found = absurd cc
found-base id (e ∷ es) row base found =
    elim (cases_Bool (same_consumer id e.0)) [
      | inl here ↦
          let is : Some e.1 ≡ Some row =
          sym (cond-true (same_consumer id e.0) (Some e.1) (lookup (same_consumer id) es) here) ∙ found in
          let same : e.1 ≡ row = cc in
          subst (λ (r : Seat). HoldsBase (id, r)) same
          (subst (λ (k : ConsumerId). HoldsBase (k, e.1)) (sym (same_consumer-true id e.0 here)) base.0)
      | inr other ↦
          found-base id es row base.1
          (sym (cond-false (same_consumer id e.0) (Some e.1) (lookup (same_consumer id) es) other) ∙ found)
    ]

-- a write that leaves what is seen of a seat
pub seen-set : {A : Type 0} (see : Seat → A) (id : ConsumerId) (es : List Entry) (row w : Seat)
    → lookup (same_consumer id) es ≡ Some row → see w ≡ see row
    → seen see (set_value (same_consumer id) es w) ≡ seen see es
seen-set see id [] row w found same = absurd cc
seen-set {A = A} see id (e ∷ es) row w found same =
    elim (cases_Bool (same_consumer id e.0)) [
      | inl here ↦
          let is : Some e.1 ≡ Some row =
          sym (cond-true (same_consumer id e.0) (Some e.1) (lookup (same_consumer id) es) here) ∙ found in
          let is' : e.1 ≡ row = cc in
          ap (seen see) (cond-true (same_consumer id e.0) ((e.0, w) ∷ es) (e ∷ set_value (same_consumer id) es w) here)
          ∙ ap (λ (x : A). x ∷ seen see es) (same ∙ ap see (sym is'))
      | inr other ↦
          ap (seen see) (cond-false (same_consumer id e.0) ((e.0, w) ∷ es) (e ∷ set_value (same_consumer id) es w) other)
          ∙ ap (λ (xs : List A). see e.1 ∷ xs) (seen-set see id es row w
          (sym (cond-false (same_consumer id e.0) (Some e.1) (lookup (same_consumer id) es) other) ∙ found) same)
    ]

-- one more that changed
pub more-tracked : (id : ConsumerId) (touched : List ConsumerId) (es : List Entry)
    → AllByRecursion (IsTracked touched) es → AllByRecursion (IsTracked (id ∷ touched)) es
more-tracked id touched es each =
    AllByRecursion-weaker (IsTracked touched) (IsTracked (id ∷ touched)) (λ e is. by e is) es each
  where
    by : (e : Entry) → IsTracked touched e → IsTracked (id ∷ touched) e
    by e (inl same) = inl same
    by e (inr among) = inr (inr among)

-- ---- a row is written through the map

module _ {S : Type 0} (id : ConsumerId) (m n : IndexMap ConsumerId Seat S) (are : AreJoined m.entries) where
  -- there is no row, and the map stays
  pub absent-changes : (f : Served → Served) → n ≡ m → None ≡ get same_consumer m id
      → ones_of n.entries ≡ change_by id f (ones_of m.entries)
  absent-changes f same none =
      ap (λ (x : IndexMap ConsumerId Seat S). ones_of x.entries) same
      ∙ sym (unchanged id f m.entries are.ids (sym none))

  pub absent-hands : (turn : ℕ) (x : Item) → n ≡ m → None ≡ get same_consumer m id
      → ones_of n.entries ≡ hand_to turn x id (ones_of m.entries)
  absent-hands turn x same none =
      ap (λ (y : IndexMap ConsumerId Seat S). ones_of y.entries) same
      ∙ sym (absent-handed turn x id m.entries are.ids (sym none))

  pub found-one : (row : Seat) → Some row ≡ get same_consumer m id
      → one_of id (ones_of m.entries) ≡ Some (seat_one row)
  found-one row found = sym (one_of-lookup id m.entries are.ids) ∙ ap (option_map seat_one) (sym found)

  pub none-there : None ≡ get same_consumer m id → is_there id (ones_of m.entries) ≡ false
  none-there none = is_there-lookup id m.entries are.ids ∙ ap is_some (sym none)

  module _ (row w : Seat) (found : Some row ≡ get same_consumer m id)
      (wrote : WritesThrough same_consumer (same_consumer id) m w n) where
    pub write-joined : w.row.consumer.id ≡ row.row.consumer.id → (IsGiven row.row → IsGiven w.row)
        → (HoldsBase (id, row) → HoldsBase (id, w)) → AreJoined n.entries
    write-joined same given based = record {
      ids =
          subst (AllByRecursion HasOwnId) (sym wrote.0)
          (kept-set_value HasOwnId id m.entries w are.ids
          (λ e own here. sym (same_consumer-true id e.0 here)
          ∙ sym (found-own id m.entries row are.ids (sym found)) ∙ sym same));
      unique = wrote.4;
      out =
          subst (AllByRecursion HoldsOut) (sym wrote.0)
          (kept-set_value HoldsOut id m.entries w are.out
          (λ e own here. given (found-given id m.entries row are.out (sym found))));
      base =
          subst (AllByRecursion HoldsBase) (sym wrote.0)
          (kept-set_value HoldsBase id m.entries w are.base
          (λ e own here. subst (λ (k : ConsumerId). HoldsBase (k, w)) (same_consumer-true id e.0 here)
          (based (found-base id m.entries row are.base (sym found)))));
    }

    pub write-changes : (f : Served → Served) → seat_one w ≡ f (seat_one row)
        → ones_of n.entries ≡ change_by id f (ones_of m.entries)
    write-changes f made =
        ap ones_of wrote.0 ∙ changed id f m.entries row w are.ids are.unique (sym found) made

    pub write-hands : (turn : ℕ) (x : Item) → seat_one w ≡ serve_one turn x (seat_one row)
        → ones_of n.entries ≡ hand_to turn x id (ones_of m.entries)
    write-hands turn x made = ap ones_of wrote.0 ∙ handed turn x id m.entries row w are.ids (sym found) made

    pub write-same : seat_one w ≡ seat_one row → ones_of n.entries ≡ ones_of m.entries
    write-same made = ap ones_of wrote.0 ∙ seen-set seat_one id m.entries row w (sym found) made

    pub write-bases : base_one w ≡ base_one row → bases_of n.entries ≡ bases_of m.entries
    write-bases made = ap bases_of wrote.0 ∙ seen-set base_one id m.entries row w (sym found) made

    -- a write that leaves what the consumer was
    pub write-back : (journal : List Step) (touched : List ConsumerId) → CanGoBack m.entries journal touched (spare m)
        → w.row.consumer.id ≡ row.row.consumer.id → (IsGiven row.row → IsGiven w.row) → w.base ≡ row.base
        → w.row.out.base ≡ row.row.out.base → CanGoBack n.entries journal (id ∷ touched) (spare n)
    write-back journal touched can same given base out = record {
      joined =
          write-joined same given
          (λ was. subst (λ (items : List (Numbered ReadyRow)). (id ≡ w.base.id) × AreGiven w.base items) (sym out)
          (subst (λ (k : Consumer). (id ≡ k.id) × AreGiven k row.row.out.base) (sym base) was));
      steps =
          subst (CanUndo journal)
          (sym (ap (seen base_id) wrote.0 ∙ seen-set base_id id m.entries row w (sym found)
          (ap (λ (k : Consumer). k.id) base))) can.steps;
      tracked =
          subst (AllByRecursion (IsTracked (id ∷ touched))) (sym wrote.0)
          (kept-set_value (IsTracked (id ∷ touched)) id m.entries w (more-tracked id touched m.entries can.tracked)
          (λ e was here. inr (inl (sym (same_consumer-true id e.0 here)))));
      room = subst (λ k. length journal ≤ k) (sym wrote.6) can.room;
    }
