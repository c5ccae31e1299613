-- What holds of a consumer at its client at each time.
use Rattle.std.proofs.Common.{◌≡◌, ℕ, ◌+◌, ◌<◌, ◌≤◌, Bool, true, false, ◌||◌, List, [], ◌∷◌, Option, Some, None, refl, sym, ap, ◌∙◌, subst, inl, inr, arith}
use Rattle.std.specs.Prelude.{is_some, nat_eq, nat_lt}
use Rattle.std.specs.List.{AllByRecursion, list_any}
use Rattle.std.proofs.lemmas.Bool.{cases_Bool, cond-true, cond-false, cond_both, eqb-true, eqb-false, ltb-true, ltb-false, le-ltb, ne_eqb, or_from, or_left, or_right, or_parts}
use Rattle.qq_base.proofs.Lists.{AllByRecursion-weaker}
use Rattle.qq_base.specs.declared.ids.ConsumerId.{ConsumerId}
use Rattle.qq_entry.specs.declared.answer.Delivery.{Delivery}
use Rattle.qq_consuming.specs.Consuming.{Received, IsLeastMissing, arrive, first_missing, hand_out, hand_out_by, has_arrived, ids_of, insert_delivery, missing, new_consumer, next_by, next_delivery}
use Rattle.qq_consuming.specs.Received.{IsReceived, Rise}

-- ---- a delivery in its place

pub insert-all : (P : Delivery → Type 0) (d : Delivery) (ds : List Delivery) → P d → AllByRecursion P ds
    → AllByRecursion P (insert_delivery d ds)
insert-all P d [] has all = (has, tt)
insert-all P d (one ∷ more) has all =
    cond_both (nat_lt d.id one.id) (d ∷ one ∷ more) (one ∷ insert_delivery d more) (AllByRecursion P)
    (λ _. (has, all)) (λ _. (all.0, insert-all P d more has all.1))

-- what isn't a greater number is below it
first-over : (id one : ℕ) → nat_eq id one ≡ false → id ≤ one → id < one
first-over id one other le = let ne : id ≡ one → ⊥ = eqb-false id one other in grind (arith, le, ne)

-- what isn't among ids and not below one of them is above it
above : (id one : ℕ) → nat_lt id one ≡ false → nat_eq id one ≡ false → one < id
above id one low other =
    let le : one ≤ id = ltb-false id one low in
    let ne : id ≡ one → ⊥ = eqb-false id one other in
    grind (arith, le, ne)

insert-rise : (d : Delivery) (ds : List Delivery) → list_any (nat_eq d.id) (ids_of ds) ≡ false → Rise ds
    → Rise (insert_delivery d ds)
insert-rise d [] new rise = (tt, tt)
insert-rise d (one ∷ more) new rise =
    let parts = or_parts (nat_eq d.id one.id) (list_any (nat_eq d.id) (ids_of more)) new in
    cond_both (nat_lt d.id one.id) (d ∷ one ∷ more) (one ∷ insert_delivery d more) Rise
    (λ low. let lt : d.id < one.id = ltb-true d.id one.id low in (
      (
        lt,
        AllByRecursion-weaker (λ (o : Delivery). one.id < o.id) (λ (o : Delivery). d.id < o.id)
            (λ o up. omega (arith, lt, up)) more rise.0,
      ),
      rise,
    ))
    (λ high. (
      insert-all (λ (o : Delivery). one.id < o.id) d more (above d.id one.id high parts.0) rise.0,
      insert-rise d more parts.1 rise.1,
    ))

-- ---- arrivals

pub new-received : (consumer : ConsumerId) → IsReceived (new_consumer consumer)
new-received consumer = record { positive = omega arith; rise = tt; ahead = tt }

pub insert-received : (d : Delivery) (r : Received) → has_arrived d.id r ≡ false → IsReceived r
    → IsReceived (record r { waiting = insert_delivery d r.waiting })
insert-received d r new is =
    let parts = or_parts (nat_lt d.id r.next) (list_any (nat_eq d.id) (ids_of r.waiting)) new in
    record {
      positive = is.positive;
      rise = insert-rise d r.waiting parts.1 is.rise;
      ahead = insert-all (λ (o : Delivery). r.next ≤ o.id) d r.waiting (ltb-false d.id r.next parts.0) is.ahead;
    }

pub arrive-received : (d : Delivery) (r : Received) → IsReceived r → IsReceived (arrive d r)
arrive-received d r is =
    cond_both (has_arrived d.id r) r (record r { waiting = insert_delivery d r.waiting }) IsReceived (λ _. is)
    (λ new. insert-received d r new is)

-- ---- what is handed out

-- all rising ids above one are above it
all-above : (id : ℕ) (ds : List Delivery) → AllByRecursion (λ (o : Delivery). id < o.id) ds
    → list_any (nat_eq id) (ids_of ds) ≡ false
all-above id [] up = refl
all-above id (one ∷ more) up =
    or_from (nat_eq id one.id) (list_any (nat_eq id) (ids_of more))
    (ne_eqb id one.id (λ same. let lt : id < one.id = up.0 in omega (arith, same, lt)))
    (all-above id more up.1)

first-above : (id : ℕ) (one : Delivery) (more : List Delivery) → Rise (one ∷ more) → id < one.id
    → list_any (nat_eq id) (ids_of (one ∷ more)) ≡ false
first-above id one more rise lt =
    all-above id (one ∷ more) (
      lt,
      AllByRecursion-weaker (λ (o : Delivery). one.id < o.id)
          (λ (o : Delivery). id < o.id) (λ o up. omega (arith, lt, up)) more rise.0,
    )

next-found : (next : ℕ) (ds : List Delivery) → Rise ds → AllByRecursion (λ (o : Delivery). next ≤ o.id) ds
    → is_some (next_by next ds) ≡ list_any (nat_eq next) (ids_of ds)
next-found next [] rise ahead = refl
next-found next (one ∷ more) rise ahead =
    elim (cases_Bool (nat_eq next one.id)) [
      | inl here ↦
          ap is_some (cond-true (nat_eq next one.id) (Some one) None here)
          ∙ sym (or_left (nat_eq next one.id) (list_any (nat_eq next) (ids_of more)) here)
      | inr other ↦
          ap is_some (cond-false (nat_eq next one.id) (Some one) None other)
          ∙ sym (first-above next one more rise (first-over next one.id other ahead.0))
    ]

pub next-arrived : (r : Received) → IsReceived r → is_some (next_delivery r) ≡ has_arrived r.next r
next-arrived r is =
    next-found r.next r.waiting is.rise is.ahead
    ∙ sym (ap (λ (b : Bool). b || list_any (nat_eq r.next) (ids_of r.waiting))
    (le-ltb r.next r.next (omega arith)))

-- all rising ids above the next one are at or above the one after it
ahead-later : (next id : ℕ) (ds : List Delivery) → next ≤ id → AllByRecursion (λ (o : Delivery). id < o.id) ds
    → AllByRecursion (λ (o : Delivery). next + 1 ≤ o.id) ds
ahead-later next id ds le up =
    AllByRecursion-weaker (λ (o : Delivery). id < o.id) (λ (o : Delivery). next + 1 ≤ o.id)
    (λ o lt. omega (arith, le, lt)) ds up

pub handed-received : (r : Received) (one : Delivery) (more : List Delivery) → r.waiting ≡ one ∷ more → IsReceived r
    → IsReceived (record r { next = r.next + 1; waiting = more })
handed-received r one more are is =
    let rise : Rise (one ∷ more) = subst Rise are is.rise in
    let ahead : AllByRecursion (λ (o : Delivery). r.next ≤ o.id) (one ∷ more) =
    subst (AllByRecursion (λ (o : Delivery). r.next ≤ o.id)) are is.ahead in
    record {
      positive = omega arith;
      rise = rise.1;
      ahead = ahead-later r.next one.id more ahead.0 rise.0;
    }

pub hand_out-received : (r : Received) → IsReceived r → IsReceived (hand_out r)
hand_out-received r is = by r.waiting refl
  where
    by : (ds : List Delivery) → r.waiting ≡ ds
        → IsReceived (hand_out_by (next_by r.next ds) (record r { waiting = ds }))
    by [] are = subst (λ (ds : List Delivery). IsReceived (record r { waiting = ds })) are is
    by (one ∷ more) are =
        cond_both (nat_eq r.next one.id) (Some one) None
        (λ (o : Option Delivery). IsReceived (hand_out_by o (record r { waiting = one ∷ more })))
        (λ _. handed-received r one more are is)
        (λ _. subst (λ (ds : List Delivery). IsReceived (record r { waiting = ds })) are is)

-- ---- what is missing

-- an id is missing from these, and those from another one to below it are there
record IsGap (from id : ℕ) (ds : List Delivery) : Type 0 where
  missing : list_any (nat_eq id) (ids_of ds) ≡ false
  from_there : from ≤ id
  least : (other : ℕ) → from ≤ other → other < id → list_any (nat_eq other) (ids_of ds) ≡ true

first-missing : (id : ℕ) (ds : List Delivery) → Rise ds → AllByRecursion (λ (o : Delivery). id ≤ o.id) ds
    → IsGap id (first_missing id (ids_of ds)) ds
first-missing id [] rise ahead =
    record { missing = refl; from_there = omega arith; least = λ other le lt. absurd (omega (arith, le, lt)) }
first-missing id (one ∷ more) rise ahead =
    cond_both (nat_eq id one.id) (first_missing (id + 1) (ids_of more)) id (λ (n : ℕ). IsGap id n (one ∷ more))
    (λ here. let same : id ≡ one.id = eqb-true id one.id here in
    let gap = first-missing (id + 1) more rise.1 (ahead-later id one.id more ahead.0 rise.0) in
    let n : ℕ = first_missing (id + 1) (ids_of more) in
    let up : id + 1 ≤ n = gap.from_there in
    record {
      missing =
          or_from (nat_eq n one.id) (list_any (nat_eq n) (ids_of more))
          (ne_eqb n one.id (λ e. omega (arith, e, same, up))) gap.missing;
      from_there = omega (arith, up);
      least = λ other le lt.
          elim (cases_Bool (nat_eq other one.id)) [
            | inl is ↦ or_left (nat_eq other one.id) (list_any (nat_eq other) (ids_of more)) is
            | inr isn't ↦
                or_right (nat_eq other one.id) (list_any (nat_eq other) (ids_of more))
                (gap.least other
                (let up : one.id < other = above other one.id (le-ltb other one.id (omega (arith, same, le))) isn't in
                omega (arith, same, up)) lt)
          ];
    })
    (λ other. record {
      missing = first-above id one more rise (first-over id one.id other ahead.0);
      from_there = omega arith;
      least = λ k le lt. absurd (omega (arith, le, lt));
    })

pub missing-least : (r : Received) → IsReceived r → IsLeastMissing (missing r) r
missing-least r is =
    let gap = first-missing r.next r.waiting is.rise is.ahead in
    record {
      missing =
          or_from (nat_lt (missing r) r.next) (list_any (nat_eq (missing r)) (ids_of r.waiting))
          (le-ltb (missing r) r.next gap.from_there) gap.missing;
      least = λ other lt.
          elim (cases_Bool (nat_lt other r.next)) [
            | inl low ↦ or_left (nat_lt other r.next) (list_any (nat_eq other) (ids_of r.waiting)) low
            | inr high ↦
                or_right (nat_lt other r.next) (list_any (nat_eq other) (ids_of r.waiting))
                (gap.least other (ltb-false other r.next high) lt)
          ];
    }

pub missing-positive : (r : Received) → IsReceived r → 0 < missing r
missing-positive r is =
    let gap = first-missing r.next r.waiting is.rise is.ahead in
    let positive : 0 < r.next = is.positive in
    let le : r.next ≤ missing r = gap.from_there in
    omega (arith, positive, le)
