-- Laws of what a consumer knows and is handed, over all deeds.
use Rattle.std.proofs.Common.{◌≡◌, ℕ, zero, suc, ◌+◌, ◌<◌, ◌≤◌, true, false, List, [], ◌∷◌, length, Some, refl, sym, ap, ◌∙◌, inl, inr, arith}
use Rattle.std.specs.Prelude.{All, Contains, is_some, nat_eq, nat_lt, slice_get}
use Rattle.std.specs.List.{AllByRecursion, list_any}
use Rattle.std.specs.Cmp.{both_ways}
use Rattle.std.proofs.lemmas.Bool.{and_from, and_parts, cases_Bool, eqb-false, eqb-true, ltb-true, lt-ltb, or_cases, or_left, or_right}
use Rattle.std.proofs.lemmas.List.Elements.{All-contains, All-from_recursion}
use Rattle.qq_base.proofs.Lists.{In, AllByRecursion-weaker}
use Rattle.qq_base.proofs.Fronts.{front-nil, longer_front}
use Rattle.qq_base.specs.Fronts.{IsFront}
use Rattle.qq_base.specs.declared.ids.ConsumerId.{ConsumerId}
use Rattle.qq_entry.specs.declared.answer.Delivery.{Delivery}
use Rattle.qq_laws.specs.Ids.{CountByOne}
use Rattle.qq_model.proofs.Soundness.{Contains-in, in_contains}
use Rattle.qq_consuming.specs.Consuming.{Received, has_arrived, ids_of, missing, new_consumer, next_delivery, was_handed_out}
use Rattle.qq_consuming.specs.Arrivals.{Deed, after_deeds, arrivals, handed}
use Rattle.qq_consuming.proofs.ReceivedLemmas.{missing-least, missing-positive, next-arrived}
use Rattle.qq_consuming.proofs.History.{Counted, history}

pub remembered : (consumer : ConsumerId) (deeds : List Deed) (id : ℕ) → 0 < id
    → has_arrived id (after_deeds deeds (new_consumer consumer)) ≡ list_any (nat_eq id) (ids_of (arrivals deeds))
remembered consumer deeds id positive = (history consumer deeds).known id positive

-- ---- numbers that count

counted-get : (n : ℕ) (ds : List Delivery) (k : ℕ) (d : Delivery) → Counted n ds → slice_get ds k ≡ Some d
    → d.id ≡ n + k
counted-get n [] k d counted found = absurd cc
counted-get n (one ∷ more) zero d counted found =
    let same : one ≡ d = cc in ap (λ (o : Delivery). o.id) (sym same) ∙ counted.0 ∙ omega arith
counted-get n (one ∷ more) (suc k) d counted found = counted-get (n + 1) more k d counted.1 found ∙ omega arith

counted-read : (n : ℕ) (ds : List Delivery)
    → ((k : ℕ) (d : Delivery) → slice_get ds k ≡ Some d → d.id ≡ n + k) → Counted n ds
counted-read n [] reads = tt
counted-read n (one ∷ more) reads =
    (reads 0 one refl ∙ omega arith, counted-read (n + 1) more (λ k d found. reads (suc k) d found ∙ omega arith))

counted-in : (n : ℕ) (ds : List Delivery) (d : Delivery) → Counted n ds → In d ds → n ≤ d.id
counted-in n [] d counted here = absurd here
counted-in n (one ∷ more) d counted (inl same) =
    let e : d.id ≡ n = ap (λ (o : Delivery). o.id) same ∙ counted.0 in omega (arith, e)
counted-in n (one ∷ more) d counted (inr later) =
    let le : n + 1 ≤ d.id = counted-in (n + 1) more d counted.1 later in omega (arith, le)

counted-all : (n : ℕ) (ds : List Delivery) → Counted n ds → AllByRecursion (λ (d : Delivery). n ≤ d.id) ds
counted-all n [] counted = tt
counted-all n (one ∷ more) counted = (
  let e : one.id ≡ n = counted.0 in omega (arith, e),
  AllByRecursion-weaker (λ (d : Delivery). n + 1 ≤ d.id) (λ (d : Delivery). n ≤ d.id)
      (λ d le. omega (arith, le)) more (counted-all (n + 1) more counted.1),
)

counted-bounds : (n : ℕ) (ds : List Delivery) (id : ℕ) → Counted n ds → list_any (nat_eq id) (ids_of ds) ≡ true
    → (n ≤ id) × (id < n + length ds)
counted-bounds n [] id counted any = absurd cc
counted-bounds n (one ∷ more) id counted any =
    elim (or_cases (nat_eq id one.id) (list_any (nat_eq id) (ids_of more)) any) [
      | inl here ↦ let e : id ≡ n = eqb-true id one.id here ∙ counted.0 in (omega (arith, e), omega (arith, e))
      | inr later ↦
          let rest = counted-bounds (n + 1) more id counted.1 later in
          let low : n + 1 ≤ id = rest.0 in
          let high : id < n + 1 + length more = rest.1 in
          (omega (arith, low), omega (arith, high))
    ]

counted-there : (n : ℕ) (ds : List Delivery) (id : ℕ) → Counted n ds → n ≤ id → id < n + length ds
    → list_any (nat_eq id) (ids_of ds) ≡ true
counted-there n [] id counted low high = absurd (omega (arith, low, high))
counted-there n (one ∷ more) id counted low high =
    elim (cases_Bool (nat_eq id one.id)) [
      | inl here ↦ or_left (nat_eq id one.id) (list_any (nat_eq id) (ids_of more)) here
      | inr other ↦
          or_right (nat_eq id one.id) (list_any (nat_eq id) (ids_of more))
          (counted-there (n + 1) more id counted.1
          (let up : id ≡ one.id → ⊥ = eqb-false id one.id other in let e : one.id ≡ n = counted.0 in
          grind (arith, up, e, low)) (omega (arith, high)))
    ]

-- ---- what is handed out

pub in_order : (consumer : ConsumerId) (deeds : List Deed) (k : ℕ) (delivery : Delivery)
    → slice_get (handed (new_consumer consumer) deeds) k ≡ Some delivery → delivery.id ≡ k + 1
in_order consumer deeds k delivery found =
    counted-get 1 (handed (new_consumer consumer) deeds) k delivery (history consumer deeds).counted found
    ∙ omega arith

pub of-arrivals : (consumer : ConsumerId) (deeds : List Deed)
    → All (Contains (arrivals deeds)) (handed (new_consumer consumer) deeds)
of-arrivals consumer deeds =
    let out : List Delivery = handed (new_consumer consumer) deeds in
    All-from_recursion (Contains (arrivals deeds)) out
    (AllByRecursion-weaker (λ (d : Delivery). In d (arrivals deeds)) (Contains (arrivals deeds))
    (λ d here. Contains-in d (arrivals deeds) here) out (history consumer deeds).out_in)

pub next-there : (consumer : ConsumerId) (deeds : List Deed)
    → is_some (next_delivery (after_deeds deeds (new_consumer consumer)))
    ≡ list_any (nat_eq (length (handed (new_consumer consumer) deeds) + 1)) (ids_of (arrivals deeds))
next-there consumer deeds =
    let r : Received = after_deeds deeds (new_consumer consumer) in
    let is = history consumer deeds in
    next-arrived r is.received ∙ is.known r.next is.received.positive
    ∙ ap (λ (n : ℕ). list_any (nat_eq n) (ids_of (arrivals deeds))) is.next

pub claimed : (consumer : ConsumerId) (deeds : List Deed) (id : ℕ)
    → was_handed_out id (after_deeds deeds (new_consumer consumer))
    ≡ list_any (nat_eq id) (ids_of (handed (new_consumer consumer) deeds))
claimed consumer deeds id =
    let r : Received = after_deeds deeds (new_consumer consumer) in
    let out : List Delivery = handed (new_consumer consumer) deeds in
    let is = history consumer deeds in
    let next : r.next ≡ length out + 1 = is.next in
    both_ways (was_handed_out id r) (list_any (nat_eq id) (ids_of out))
    (λ was. let parts = and_parts (nat_lt 0 id) (nat_lt id r.next) was in
    let low : 0 < id = ltb-true 0 id parts.0 in
    let high : id < r.next = ltb-true id r.next parts.1 in
    counted-there 1 out id is.counted (omega (arith, low)) (omega (arith, high, next)))
    (λ any. let bounds = counted-bounds 1 out id is.counted any in
    let low : 1 ≤ id = bounds.0 in
    let high : id < 1 + length out = bounds.1 in
    and_from (nat_lt 0 id) (nat_lt id r.next) (lt-ltb 0 id (omega (arith, low)))
    (lt-ltb id r.next (omega (arith, high, next))))

-- ---- what is missing

pub is-missing : (consumer : ConsumerId) (deeds : List Deed)
    → list_any (nat_eq (missing (after_deeds deeds (new_consumer consumer)))) (ids_of (arrivals deeds)) ≡ false
is-missing consumer deeds =
    let r : Received = after_deeds deeds (new_consumer consumer) in
    let is = history consumer deeds in
    sym (is.known (missing r) (missing-positive r is.received)) ∙ (missing-least r is.received).missing

pub least-missing : (consumer : ConsumerId) (deeds : List Deed) (id : ℕ) → 0 < id
    → id < missing (after_deeds deeds (new_consumer consumer))
    → list_any (nat_eq id) (ids_of (arrivals deeds)) ≡ true
least-missing consumer deeds id positive low =
    let r : Received = after_deeds deeds (new_consumer consumer) in
    let is = history consumer deeds in
    sym (is.known id positive) ∙ (missing-least r is.received).least id low

-- ---- the consumer's deliveries

-- of two lists that count, one is a front of the other where its items are among them
counted-front : (n : ℕ) (out all : List Delivery) → Counted n out → Counted n all
    → AllByRecursion (λ (d : Delivery). In d all) out → IsFront out all
counted-front n [] all counted counts among = front-nil all
counted-front n (one ∷ more) [] counted counts among = absurd among.0
counted-front n (one ∷ more) (first ∷ rest) counted counts among =
    longer_front one first (same among.0)
    (counted-front (n + 1) more rest counted.1 counts.1 (later more (counted-all (n + 1) more counted.1) among.1))
  where
    same : In one (first ∷ rest) → one ≡ first
    same (inl is) = is
    same (inr here) =
        let le : n + 1 ≤ one.id = counted-in (n + 1) rest one counts.1 here in
        let e : one.id ≡ n = counted.0 in absurd (omega (arith, le, e))

    behind : (d : Delivery) → n + 1 ≤ d.id → In d (first ∷ rest) → In d rest
    behind d le (inl is) =
        let e : d.id ≡ n = ap (λ (o : Delivery). o.id) is ∙ counts.0 in absurd (omega (arith, le, e))
    behind d le (inr here) = here

    later : (ds : List Delivery) → AllByRecursion (λ (d : Delivery). n + 1 ≤ d.id) ds
        → AllByRecursion (λ (d : Delivery). In d (first ∷ rest)) ds → AllByRecursion (λ (d : Delivery). In d rest) ds
    later [] up among = tt
    later (d ∷ ds) up among = (behind d up.0 among.0, later ds up.1 among.1)

pub handed-front : (all : List Delivery) (consumer : ConsumerId) (deeds : List Deed) → CountByOne all
    → All (Contains all) (arrivals deeds) → IsFront (handed (new_consumer consumer) deeds) all
handed-front all consumer deeds counts arrive =
    let out : List Delivery = handed (new_consumer consumer) deeds in
    let is = history consumer deeds in
    counted-front 1 out all is.counted (counted-read 1 all (λ k d found. counts k d found ∙ omega arith))
    (AllByRecursion-weaker (λ (d : Delivery). In d (arrivals deeds)) (λ (d : Delivery). In d all)
    (λ d here. in_contains all d (All-contains (Contains all) (arrivals deeds) d arrive
    (Contains-in d (arrivals deeds) here))) out is.out_in)
