-- What waits under its ids in a map, as a list.
use Rattle.std.proofs.Common.{length, drop, get_or, suc, ◌≡◌, ◌<◌, ◌≤◌, ◌+◌, Bool, true, false, ◌||◌, cond, ℕ, List, [], ◌∷◌, Option, Some, None, refl, sym, ap, ◌∙◌, subst, inl, inr, arith}
use Rattle.std.specs.Prelude.{is_some, nat_eq, nat_lt, slice_get, unwrap_or}
use Rattle.std.specs.List.{AllByRecursion, list_any}
use Rattle.std.specs.Map.{keys_of, values_of, lookup}
use Rattle.std.specs.Ordering.{nat_cmp, is_eq, match_ordering}
use Rattle.std.specs.declared.cmp.Ordering.{Ordering}
use Rattle.std.specs.declared.cmp.Ordering.TheVariants.{Less, Equal, Greater}
use Rattle.std.specs.BTreeMap.{insert_entry, is_at}
use Rattle.std.proofs.lemmas.Bool.{cases_Bool, cond-true, cond-false, cond_both, eq-eqb, eqb-true, eqb-false, le-ltb, ltb-true, ne_eqb, or_parts}
use Rattle.std.proofs.lemmas.Map.Made.{is_some-lookup}
use Rattle.qq_base.specs.declared.memory.TheConstants.{NUMBER_END}
use Rattle.qq_entry.specs.declared.answer.Delivery.{Delivery}
use Rattle.qq_consuming.specs.Consuming.{Received, arrive, first_missing, missing, hand_out, hand_out_by, without_first, has_arrived, ids_of, insert_delivery, next_by, next_delivery}
use Rattle.qq_consuming.specs.Received.{IsKept, IsReceived, keyed}
use Rattle.qq_consuming.proofs.ReceivedLemmas.{insert-all, insert-received, handed-received}

abbrev Entries : Type 0
Entries = List (ℕ × Delivery)

pub keys-keyed : (ds : List Delivery) → keys_of (keyed ds) ≡ ids_of ds
keys-keyed [] = refl
keys-keyed (one ∷ more) = ap (λ (ids : List ℕ). one.id ∷ ids) (keys-keyed more)

pub values-keyed : (ds : List Delivery) → values_of (keyed ds) ≡ ds
values-keyed [] = refl
values-keyed (one ∷ more) = ap (λ (ds : List Delivery). one ∷ ds) (values-keyed more)

-- ---- what is there

cmp-less : (a b : ℕ) → nat_lt a b ≡ true → nat_cmp a b ≡ Less
cmp-less a b lt = cond-true (nat_lt a b) Less (cond (nat_eq a b) Equal Greater) lt

cmp-equal : (a b : ℕ) → nat_lt a b ≡ false → nat_eq a b ≡ true → nat_cmp a b ≡ Equal
cmp-equal a b high same =
    cond-false (nat_lt a b) Less (cond (nat_eq a b) Equal Greater) high
    ∙ cond-true (nat_eq a b) Equal Greater same

cmp-greater : (a b : ℕ) → nat_lt a b ≡ false → nat_eq a b ≡ false → nat_cmp a b ≡ Greater
cmp-greater a b high other =
    cond-false (nat_lt a b) Less (cond (nat_eq a b) Equal Greater) high
    ∙ cond-false (nat_eq a b) Equal Greater other

is_eq-cmp : (a b : ℕ) → is_eq (nat_cmp a b) ≡ nat_eq a b
is_eq-cmp a b =
    elim (cases_Bool (nat_lt a b)) [
      | inl low ↦
          ap is_eq (cmp-less a b low)
          ∙ sym (ne_eqb a b (λ same. let lt : a < b = ltb-true a b low in omega (arith, lt, same)))
      | inr high ↦
          elim (cases_Bool (nat_eq a b)) [
            | inl same ↦ ap is_eq (cmp-equal a b high same) ∙ sym same
            | inr other ↦ ap is_eq (cmp-greater a b high other) ∙ sym other
          ]
    ]

any-cmp : (id : ℕ) (ks : List ℕ) → list_any (is_at (nat_cmp id)) ks ≡ list_any (nat_eq id) ks
any-cmp id [] = refl
any-cmp id (k ∷ ks) =
    ap (λ (b : Bool). b || list_any (is_at (nat_cmp id)) ks) (is_eq-cmp id k)
    ∙ ap (λ (b : Bool). nat_eq id k || b) (any-cmp id ks)

-- whether a delivery of an id waits
pub found-keyed : (id : ℕ) (es : Entries) (ds : List Delivery) → es ≡ keyed ds
    → is_some (lookup (is_at (nat_cmp id)) es) ≡ list_any (nat_eq id) (ids_of ds)
found-keyed id es ds under =
    is_some-lookup (is_at (nat_cmp id)) es
    ∙ ap (λ (fs : Entries). list_any (is_at (nat_cmp id)) (keys_of fs)) under
    ∙ ap (list_any (is_at (nat_cmp id))) (keys-keyed ds)
    ∙ any-cmp id (ids_of ds)

-- ---- what is added

-- the arms of an insertion
abbrev at : ℕ → Delivery → ℕ × Delivery → Entries → Ordering → Entries
at id d e es o = match_ordering o ((id, d) ∷ e ∷ es) ((e.0, d) ∷ es) (e ∷ insert_entry nat_cmp es id d)

pub inserted : (d : Delivery) (ds : List Delivery) → list_any (nat_eq d.id) (ids_of ds) ≡ false
    → insert_entry nat_cmp (keyed ds) d.id d ≡ keyed (insert_delivery d ds)
inserted d [] new = refl
inserted d (one ∷ more) new =
    let parts = or_parts (nat_eq d.id one.id) (list_any (nat_eq d.id) (ids_of more)) new in
    elim (cases_Bool (nat_lt d.id one.id)) [
      | inl low ↦
          ap (at d.id d (one.id, one) (keyed more)) (cmp-less d.id one.id low)
          ∙ sym (ap keyed (cond-true (nat_lt d.id one.id) (d ∷ one ∷ more) (one ∷ insert_delivery d more) low))
      | inr high ↦
          ap (at d.id d (one.id, one) (keyed more)) (cmp-greater d.id one.id high parts.0)
          ∙ ap (λ (es : Entries). (one.id, one) ∷ es) (inserted d more parts.1)
          ∙ sym (ap keyed (cond-false (nat_lt d.id one.id) (d ∷ one ∷ more) (one ∷ insert_delivery d more) high))
    ]

-- what waits after an insertion
pub inserted-are : (r : Received) (d : Delivery) (old new : Entries) → IsKept r old → has_arrived d.id r ≡ false
    → new ≡ insert_entry nat_cmp old d.id d → new ≡ keyed (insert_delivery d r.waiting)
inserted-are r d old new kept first is =
    is ∙ ap (λ (es : Entries). insert_entry nat_cmp es d.id d) kept.under
    ∙ inserted d r.waiting (or_parts (nat_lt d.id r.next) (list_any (nat_eq d.id) (ids_of r.waiting)) first).1

-- ---- a state of the fields

abbrev with_waiting : Received → Entries → Received
with_waiting r es = record r { waiting = values_of es }

kept-at : (r : Received) (es : Entries) (ds : List Delivery) → es ≡ keyed ds → IsReceived (record r { waiting = ds })
    → r.next ≤ NUMBER_END → AllByRecursion (λ (one : Delivery). one.id < NUMBER_END) ds → IsKept (with_waiting r es) es
kept-at r es ds are is within below =
    let values : values_of es ≡ ds = ap values_of are ∙ values-keyed ds in
    subst (λ (xs : List Delivery). IsKept (record r { waiting = xs }) es) (sym values)
    (record { received = is; under = are; within = within; below = below })

pub inserted-kept : (r : Received) (d : Delivery) (old new : Entries) → IsKept r old → has_arrived d.id r ≡ false
    → d.id < NUMBER_END → new ≡ insert_entry nat_cmp old d.id d → IsKept (record r { waiting = values_of new }) new
inserted-kept r d old new kept first low is =
    kept-at r new (insert_delivery d r.waiting) (inserted-are r d old new kept first is)
    (insert-received d r first kept.received) kept.within
    (insert-all (λ (one : Delivery). one.id < NUMBER_END) d r.waiting low kept.below)

-- ---- what is asked

pub waits-found : (id : ℕ) (r : Received) (es : Entries) → IsKept r es → r.next ≤ id
    → is_some (lookup (is_at (nat_cmp id)) es) ≡ has_arrived id r
waits-found id r es kept high =
    found-keyed id es r.waiting kept.under
    ∙ sym (ap (λ (b : Bool). b || list_any (nat_eq id) (ids_of r.waiting)) (le-ltb id r.next high))

no-first : (next : ℕ) (es : Entries) (ds : List Delivery) → es ≡ keyed ds → length es ≡ 0 → next_by next ds ≡ None
no-first next es [] are none' = refl
no-first next es (one ∷ more) are none' =
    let n : length es ≡ suc (length (keyed more)) = ap length are in absurd (omega (arith, n, none'))

pub nothing-next : (r : Received) (es : Entries) → IsKept r es → length es ≡ 0 → next_delivery r ≡ None
nothing-next r es kept none' = no-first r.next es r.waiting kept.under none'

first-tested : (next k : ℕ) (d : Delivery) (es : Entries) (ds : List Delivery) → es ≡ keyed ds
    → slice_get es 0 ≡ Some (k, d) → nat_eq k next ≡ is_some (next_by next ds)
first-tested next k d es [] are first =
    absurd (let e : ◌≡◌ {A = Option (ℕ × Delivery)} None (Some (k, d)) =
    sym (ap (λ (xs : Entries). slice_get xs 0) are) ∙ first in cc)
first-tested next k d es (one ∷ more) are first =
    let e : ◌≡◌ {A = Option (ℕ × Delivery)} (Some (one.id, one)) (Some (k, d)) =
    sym (ap (λ (xs : Entries). slice_get xs 0) are) ∙ first in
    let same : one.id ≡ k = ap (λ (o : Option (ℕ × Delivery)). (unwrap_or o (k, d)).0) e in
    cond_both (nat_eq next one.id) (Some one) None (λ (o : Option Delivery). nat_eq k next ≡ is_some o)
    (λ here. eq-eqb k next (sym same ∙ sym (eqb-true next one.id here)))
    (λ other. ne_eqb k next (λ is. eqb-false next one.id other (sym is ∙ sym same)))

pub next-tested : (r : Received) (es : Entries) (k : ℕ) (d : Delivery) → IsKept r es
    → slice_get es 0 ≡ Some (k, d) → nat_eq k r.next ≡ is_some (next_delivery r)
next-tested r es k d kept first = first-tested r.next k d es r.waiting kept.under first

-- ---- what is handed out

-- the first entry is the first delivery
record IsFirst (p : ℕ × Delivery) (es : Entries) (ds : List Delivery) : Type 0 where
  more : List Delivery
  are : ds ≡ p.1 ∷ more
  under : es ≡ keyed more

first-is : (p : ℕ × Delivery) (es : Entries) (ds : List Delivery) → ◌≡◌ {A = Entries} (p ∷ es) (keyed ds)
    → IsFirst p es ds
first-is p es [] are = absurd (let n : suc (length es) ≡ 0 = ap length are in omega (arith, n))
first-is p es (one ∷ more) are =
    record {
      more = more;
      are = ap (λ (d : Delivery). d ∷ more) (sym (ap (λ (xs : Entries). (get_or xs 0 p).1) are));
      under = ap (drop 1) are;
    }

popped : (r : Received) (p : ℕ × Delivery) (old new : Entries) → IsKept r old → old ≡ p ∷ new
    → IsFirst p new r.waiting
popped r p old new kept is = first-is p new r.waiting (sym is ∙ kept.under)

pub popped-kept : (r : Received) (p : ℕ × Delivery) (old new : Entries) → IsKept r old → old ≡ p ∷ new
    → IsKept (record r { next = r.next + 1; waiting = values_of new }) new
popped-kept r p old new kept is =
    let first = popped r p old new kept is in
    let ahead : AllByRecursion (λ (o : Delivery). r.next ≤ o.id) (p.1 ∷ first.more) =
    subst (AllByRecursion (λ (o : Delivery). r.next ≤ o.id)) first.are kept.received.ahead in
    let below : AllByRecursion (λ (o : Delivery). o.id < NUMBER_END) (p.1 ∷ first.more) =
    subst (AllByRecursion (λ (o : Delivery). o.id < NUMBER_END)) first.are kept.below in
    let le : r.next ≤ p.1.id = ahead.0 in
    let lt : p.1.id < NUMBER_END = below.0 in
    kept-at (record r { next = r.next + 1 }) new first.more first.under
    (handed-received r p.1 first.more first.are kept.received) (omega (arith, le, lt)) below.1

pub popped-next : (r : Received) (p : ℕ × Delivery) (old new : Entries) → IsKept r old → old ≡ p ∷ new
    → is_some (next_delivery r) ≡ true → next_delivery r ≡ Some p.1
popped-next r p old new kept is there =
    let first = popped r p old new kept is in
    ap (next_by r.next) first.are ∙ cond-true (nat_eq r.next p.1.id) (Some p.1) None
    (by (nat_eq r.next p.1.id) (sym (ap (λ (ds : List Delivery). is_some (next_by r.next ds)) first.are) ∙ there))
  where
    by : (b : Bool) → is_some (cond b (Some p.1) None) ≡ true → b ≡ true
    by true e = refl
    by false e = e

pub popped-after : (r : Received) (p : ℕ × Delivery) (old new : Entries) → IsKept r old → old ≡ p ∷ new
    → is_some (next_delivery r) ≡ true
    → ◌≡◌ {A = Received} (record r { next = r.next + 1; waiting = values_of new }) (hand_out r)
popped-after r p old new kept is there =
    let first = popped r p old new kept is in
    ap (λ (ds : List Delivery). let n : Received = record r { next = r.next + 1; waiting = ds } in n)
    (ap values_of first.under ∙ values-keyed first.more ∙ sym (ap without_first first.are))
    ∙ sym (ap (λ (o : Option Delivery). hand_out_by o r) (popped-next r p old new kept is there))

-- ---- the ids of what waits

pub keys-missing : (r : Received) (es : Entries) → IsKept r es → (ks : List ℕ) → ks ≡ keys_of es
    → first_missing r.next ks ≡ missing r
keys-missing r es kept ks are =
    ap (first_missing r.next) (are ∙ ap keys_of kept.under ∙ keys-keyed r.waiting)

ids-below : (ds : List Delivery) → AllByRecursion (λ (one : Delivery). one.id < NUMBER_END) ds
    → AllByRecursion (λ (k : ℕ). k < NUMBER_END) (ids_of ds)
ids-below [] below = tt
ids-below (one ∷ more) below = (below.0, ids-below more below.1)

pub keys-below : (r : Received) (es : Entries) → IsKept r es → (ks : List ℕ) → ks ≡ keys_of es
    → AllByRecursion (λ (k : ℕ). k < NUMBER_END) ks
keys-below r es kept ks are =
    subst (AllByRecursion (λ (k : ℕ). k < NUMBER_END))
    (sym (are ∙ ap keys_of kept.under ∙ keys-keyed r.waiting)) (ids-below r.waiting kept.below)

-- an insertion is an arrival
pub inserted-arrive : (r : Received) (d : Delivery) (old new : Entries) → IsKept r old → has_arrived d.id r ≡ false
    → new ≡ insert_entry nat_cmp old d.id d
    → ◌≡◌ {A = Received} (record r { waiting = values_of new }) (arrive d r)
inserted-arrive r d old new kept first is =
    ap (λ (ds : List Delivery). let n : Received = record r { waiting = ds } in n)
    (ap values_of (inserted-are r d old new kept first is) ∙ values-keyed (insert_delivery d r.waiting))
    ∙ sym (cond-false (has_arrived d.id r) r (record r { waiting = insert_delivery d r.waiting }) first)
