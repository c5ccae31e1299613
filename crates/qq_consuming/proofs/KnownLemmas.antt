-- The consumers of a map, as a list.
use Rattle.std.proofs.Common.{◌≡◌, ◌⊎◌, Bool, true, false, cond, List, [], ◌∷◌, ◌++◌, Option, Some, None, refl, sym, ap, ◌∙◌, subst, inl, inr}
use Rattle.std.specs.Prelude.{Result, Ok, Err, OnErr, OnOk, is_some, unwrap_or}
use Rattle.std.specs.Map.{lookup, set_value, values_of}
use Rattle.std.specs.Option.{option_map_or}
use Rattle.std.proofs.lemmas.Bool.{cases_Bool, cond-true, cond-false, false≢true}
use Rattle.indexmap.specs.IndexMap.{insert_entry}
use Rattle.qq_base.specs.Ids.{same_consumer}
use Rattle.qq_base.specs.declared.ids.ConsumerId.{ConsumerId}
use Rattle.qq_entry.specs.declared.answer.Delivery.{Delivery}
use Rattle.qq_model.proofs.OneConsumer.{same_consumer-refl, same_consumer-true}
use Rattle.qq_consuming.specs.Consuming.{Received, new_consumer}
use Rattle.qq_consuming.specs.Consumers.{change_at, come, come_by, consumer_at, is_at, know, received, taken, taken_by}
use Rattle.qq_consuming.specs.Known.{AreOwn}

abbrev Rows : Type 0
Rows = List (ConsumerId × Received)

-- the test of a row's id, as the list and the map ask it
asked : (id : ConsumerId) (key : ConsumerId) (r : Received) → key ≡ r.consumer → is_at id r ≡ same_consumer id key
asked id key r own = by (cases_Bool (is_at id r)) (cases_Bool (same_consumer id key))
  where
    by : ((is_at id r ≡ true) ⊎ (is_at id r ≡ false))
        → ((same_consumer id key ≡ true) ⊎ (same_consumer id key ≡ false)) → is_at id r ≡ same_consumer id key
    by (inl here) other =
        here ∙ sym (ap (same_consumer id) (own ∙ same_consumer-true r.consumer id here) ∙ same_consumer-refl id)
    by (inr away) (inl here) =
        ap (λ (c : ConsumerId). same_consumer c id) (sym own ∙ sym (same_consumer-true id key here))
        ∙ same_consumer-refl id ∙ sym here
    by (inr away) (inr other) = away ∙ sym other

-- ---- what is found

pub found : (id : ConsumerId) (rows : Rows) → AreOwn rows
    → received id (values_of rows) ≡ lookup (same_consumer id) rows
found id [] own = refl
found id (row ∷ rows) own =
    ap (λ (b : Bool). cond b (Some row.1) (received id (values_of rows))) (asked id row.0 row.1 own.0)
    ∙ ap (λ (o : Option Received). cond (same_consumer id row.0) (Some row.1) o) (found id rows own.1)

-- it is the consumer of that id
pub found-own : (id : ConsumerId) (rows : Rows) → AreOwn rows → (r : Received)
    → lookup (same_consumer id) rows ≡ Some r → r.consumer ≡ id
found-own id [] own r is = absurd (let e : ◌≡◌ {A = Option Received} None (Some r) = is in cc)
found-own id (row ∷ rows) own r is = by (cases_Bool (same_consumer id row.0)) (found-own id rows own.1 r)
  where
    by : ((same_consumer id row.0 ≡ true) ⊎ (same_consumer id row.0 ≡ false))
        → (lookup (same_consumer id) rows ≡ Some r → r.consumer ≡ id) → r.consumer ≡ id
    by (inl here) rest =
        let e : Some row.1 ≡ Some r =
        sym (cond-true (same_consumer id row.0) (Some row.1) (lookup (same_consumer id) rows) here) ∙ is in
        let same : row.1 ≡ r = cc in
        ap (λ (x : Received). x.consumer) (sym same) ∙ sym own.0 ∙ sym (same_consumer-true id row.0 here)
    by (inr other) rest =
        rest (sym (cond-false (same_consumer id row.0) (Some row.1) (lookup (same_consumer id) rows) other) ∙ is)

-- ---- one more

pub known : (id : ConsumerId) (rows : Rows) → AreOwn rows → is_some (lookup (same_consumer id) rows) ≡ true
    → know id (values_of rows) ≡ values_of rows
known id rows own there =
    cond-true (is_some (received id (values_of rows))) (values_of rows) (values_of rows ++ new_consumer id ∷ [])
    (ap is_some (found id rows own) ∙ there)

inserted : (id : ConsumerId) (r : Received) (rows : Rows) → is_some (lookup (same_consumer id) rows) ≡ false
    → insert_entry same_consumer rows id r ≡ rows ++ (id, r) ∷ []
inserted id r [] new = refl
inserted id r (row ∷ rows) new = by (cases_Bool (same_consumer id row.0)) (inserted id r rows)
  where
    by : ((same_consumer id row.0 ≡ true) ⊎ (same_consumer id row.0 ≡ false))
        → (is_some (lookup (same_consumer id) rows) ≡ false
        → insert_entry same_consumer rows id r ≡ rows ++ (id, r) ∷ [])
        → cond (same_consumer id row.0) ((row.0, r) ∷ rows) (row ∷ insert_entry same_consumer rows id r)
        ≡ row ∷ rows ++ (id, r) ∷ []
    by (inl here) rest =
        absurd (false≢true (sym new
        ∙ ap is_some (cond-true (same_consumer id row.0) (Some row.1) (lookup (same_consumer id) rows) here)))
    by (inr other) rest =
        cond-false (same_consumer id row.0) ((row.0, r) ∷ rows) (row ∷ insert_entry same_consumer rows id r) other
        ∙ ap (λ (l : Rows). row ∷ l)
        (rest (sym (ap is_some (cond-false (same_consumer id row.0) (Some row.1) (lookup (same_consumer id) rows)
        other)) ∙ new))

values-more : (rows : Rows) (row : ConsumerId × Received) → values_of (rows ++ row ∷ []) ≡ values_of rows ++ row.1 ∷ []
values-more [] row = refl
values-more (first ∷ rows) row = ap (λ (l : List Received). first.1 ∷ l) (values-more rows row)

own-more : (rows : Rows) (row : ConsumerId × Received) → AreOwn rows → row.0 ≡ row.1.consumer
    → AreOwn (rows ++ row ∷ [])
own-more [] row own is = (is, tt)
own-more (first ∷ rows) row own is = (own.0, own-more rows row own.1 is)

pub known-more : (id : ConsumerId) (rows new : Rows) → AreOwn rows
    → is_some (lookup (same_consumer id) rows) ≡ false → new ≡ insert_entry same_consumer rows id (new_consumer id)
    → values_of new ≡ know id (values_of rows)
known-more id rows new own free is =
    ap values_of (is ∙ inserted id (new_consumer id) rows free) ∙ values-more rows (id, new_consumer id)
    ∙ sym (cond-false (is_some (received id (values_of rows))) (values_of rows)
    (values_of rows ++ new_consumer id ∷ []) (ap is_some (found id rows own) ∙ free))

pub known-own : (id : ConsumerId) (rows new : Rows) → AreOwn rows
    → is_some (lookup (same_consumer id) rows) ≡ false → new ≡ insert_entry same_consumer rows id (new_consumer id)
    → AreOwn new
known-own id rows new own free is =
    subst AreOwn (sym (is ∙ inserted id (new_consumer id) rows free))
    (own-more rows (id, new_consumer id) own refl)

-- ---- one changes

pub written-own : (id : ConsumerId) (rows : Rows) (w : Received) → AreOwn rows → w.consumer ≡ id
    → AreOwn (set_value (same_consumer id) rows w)
written-own id [] w own is = tt
written-own id (row ∷ rows) w own is = by (cases_Bool (same_consumer id row.0)) (written-own id rows w own.1 is)
  where
    by : ((same_consumer id row.0 ≡ true) ⊎ (same_consumer id row.0 ≡ false))
        → AreOwn (set_value (same_consumer id) rows w) → AreOwn (set_value (same_consumer id) (row ∷ rows) w)
    by (inl here) rest =
        subst AreOwn (sym (cond-true (same_consumer id row.0) ((row.0, w) ∷ rows)
        (row ∷ set_value (same_consumer id) rows w) here))
        (sym (same_consumer-true id row.0 here) ∙ sym is, own.1)
    by (inr other) rest =
        subst AreOwn (sym (cond-false (same_consumer id row.0) ((row.0, w) ∷ rows)
        (row ∷ set_value (same_consumer id) rows w) other)) (own.0, rest)

pub written : (id : ConsumerId) (change : Received → Received) (rows : Rows) (r w : Received) → AreOwn rows
    → lookup (same_consumer id) rows ≡ Some r → w ≡ change r
    → values_of (set_value (same_consumer id) rows w) ≡ change_at id change (values_of rows)
written id change [] r w own there is = refl
written id change (row ∷ rows) r w own there is =
    by (cases_Bool (same_consumer id row.0)) (λ later. written id change rows r w own.1 later is)
  where
    by : ((same_consumer id row.0 ≡ true) ⊎ (same_consumer id row.0 ≡ false))
        → (lookup (same_consumer id) rows ≡ Some r
        → values_of (set_value (same_consumer id) rows w) ≡ change_at id change (values_of rows))
        → values_of (set_value (same_consumer id) (row ∷ rows) w) ≡ change_at id change (row.1 ∷ values_of rows)
    by (inl here) rest =
        let e : Some row.1 ≡ Some r =
        sym (cond-true (same_consumer id row.0) (Some row.1) (lookup (same_consumer id) rows) here) ∙ there in
        let same : row.1 ≡ r = cc in
        ap values_of (cond-true (same_consumer id row.0) ((row.0, w) ∷ rows)
        (row ∷ set_value (same_consumer id) rows w) here)
        ∙ ap (λ (x : Received). x ∷ values_of rows) (is ∙ ap change (sym same))
        ∙ sym (cond-true (is_at id row.1) (change row.1 ∷ values_of rows) (row.1 ∷ change_at id change (values_of rows))
        (asked id row.0 row.1 own.0 ∙ here))
    by (inr other) rest =
        ap values_of (cond-false (same_consumer id row.0) ((row.0, w) ∷ rows)
        (row ∷ set_value (same_consumer id) rows w) other)
        ∙ ap (λ (l : List Received). row.1 ∷ l)
        (rest (sym (cond-false (same_consumer id row.0) (Some row.1) (lookup (same_consumer id) rows) other) ∙ there))
        ∙ sym (cond-false (is_at id row.1) (change row.1 ∷ values_of rows) (row.1 ∷ change_at id change (values_of rows))
        (asked id row.0 row.1 own.0 ∙ other))

-- where nobody has the id, nothing changes
pub unchanged : (id : ConsumerId) (change : Received → Received) (rows : Rows) → AreOwn rows
    → lookup (same_consumer id) rows ≡ None → change_at id change (values_of rows) ≡ values_of rows
unchanged id change [] own none' = refl
unchanged id change (row ∷ rows) own none' = by (cases_Bool (same_consumer id row.0)) (unchanged id change rows own.1)
  where
    by : ((same_consumer id row.0 ≡ true) ⊎ (same_consumer id row.0 ≡ false))
        → (lookup (same_consumer id) rows ≡ None → change_at id change (values_of rows) ≡ values_of rows)
        → change_at id change (row.1 ∷ values_of rows) ≡ row.1 ∷ values_of rows
    by (inl here) rest =
        absurd (let e : Some row.1 ≡ None =
        sym (cond-true (same_consumer id row.0) (Some row.1) (lookup (same_consumer id) rows) here) ∙ none' in cc)
    by (inr other) rest =
        cond-false (is_at id row.1) (change row.1 ∷ values_of rows) (row.1 ∷ change_at id change (values_of rows))
        (asked id row.0 row.1 own.0 ∙ other)
        ∙ ap (λ (l : List Received). row.1 ∷ l)
        (rest (sym (cond-false (same_consumer id row.0) (Some row.1) (lookup (same_consumer id) rows) other) ∙ none'))

-- ---- a delivery comes

pub come-written : (id : ConsumerId) (d : Delivery) (rows new : Rows) (r w : Received) → AreOwn rows
    → lookup (same_consumer id) rows ≡ Some r → new ≡ set_value (same_consumer id) rows w → w ≡ come_by d r
    → values_of new ≡ come id d (values_of rows)
come-written id d rows new r w own there wrote is =
    ap values_of wrote ∙ written id (come_by d) rows r w own there is

pub same-written : (id : ConsumerId) (rows new : Rows) (r w : Received) → AreOwn rows
    → lookup (same_consumer id) rows ≡ Some r → new ≡ set_value (same_consumer id) rows w → w ≡ r
    → values_of new ≡ values_of rows
same-written id rows new r w own there wrote is =
    ap values_of wrote ∙ written id (λ x. x) rows r w own there is ∙ itself (values_of rows)
  where
    itself : (all : List Received) → change_at id (λ x. x) all ≡ all
    itself [] = refl
    itself (x ∷ more) = by (is_at id x) (itself more)
      where
        by : (b : Bool) → change_at id (λ y. y) more ≡ more
            → cond b (x ∷ more) (x ∷ change_at id (λ y. y) more) ≡ x ∷ more
        by true rest = refl
        by false rest = ap (λ (l : List Received). x ∷ l) rest

pub taken-found : (id : ConsumerId) (d : Delivery) (rows : Rows) (o : Option Received) → AreOwn rows
    → lookup (same_consumer id) rows ≡ o → taken id d (values_of rows) ≡ option_map_or (taken_by d) o []
taken-found id d rows o own is =
    ap (λ (x : Option Received). option_map_or (taken_by d) x []) (found id rows own ∙ is)

-- whatever becomes of one, it stays its own
pub own-after : (id : ConsumerId) (rows new : Rows) (r w : Received) → AreOwn rows
    → lookup (same_consumer id) rows ≡ Some r → new ≡ set_value (same_consumer id) rows w → w.consumer ≡ r.consumer
    → AreOwn new
own-after id rows new r w own there wrote is =
    subst AreOwn (sym wrote) (written-own id rows w own (is ∙ found-own id rows own r there))

pub consumer-found : (id : ConsumerId) (rows : Rows) (o : Option Received) → AreOwn rows
    → lookup (same_consumer id) rows ≡ o → consumer_at id (values_of rows) ≡ unwrap_or o (new_consumer id)
consumer-found id rows o own is =
    ap (λ (x : Option Received). unwrap_or x (new_consumer id)) (found id rows own ∙ is)

-- what holds of either result
pub either : {A B : Type 0} (r : Result A B) (P : Type 0) → OnOk r P → OnErr r P → P
either (Ok x) P ok err = ok
either (Err e) P ok err = err
