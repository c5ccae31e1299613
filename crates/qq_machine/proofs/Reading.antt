-- What is read so far, and what the rest gives.
use Rattle.std.proofs.Common.{◌≡◌, ℕ, zero, suc, ◌+◌, ◌<◌, ◌≤◌, Bool, true, false, List, [], ◌∷◌, ◌++◌, Some, map, filter, drop, length, refl, sym, ap, ◌∙◌, arith, inl, inr}
use Rattle.std.specs.Prelude.{count_by, nat_le, slice_get, if◌then◌else◌}
use Rattle.std.specs.Option.{option_map_or}
use Rattle.std.proofs.lemmas.Bool.{cases_Bool, cond-true, cond-false}
use Rattle.std.proofs.lemmas.List.Sums.{sum_by-cons}
use Rattle.qq_base.specs.declared.ids.ConsumerId.{ConsumerId}
use Rattle.qq_entry.specs.declared.answer.Delivery.{Delivery}
use Rattle.qq_entry.specs.declared.message.ReadyRow.{ReadyRow}
use Rattle.qq_parts.specs.Reduced.{Item}
use Rattle.qq_consumer.specs.declared.rising.Numbered.{Numbered}
use Rattle.qq_consumer.specs.Roster.{out_item}
use Rattle.qq_machine.specs.Reads.{delivery_of, delivery_at, is_from, fetched_rows}

-- one item more is counted
pub count-more : {A : Type 0} (p : A → Bool) (xs : List A) (i n : ℕ) → i < length xs
    → n + count_by p (drop i xs) ≡ count_by p xs
    → (if option_map_or p (slice_get xs i) false then n + 1 else n) + count_by p (drop (i + 1) xs) ≡ count_by p xs
count-more p xs i n lt so_far =
    sym (split (option_map_or p (slice_get xs i) false) n (count_by p (drop (i + 1) xs)))
    ∙ ap (λ (k : ℕ). n + k) (sym (first p xs i lt)) ∙ so_far
  where
    split : (b : Bool) (n k : ℕ) → n + ((if b then 1 else 0) + k) ≡ (if b then n + 1 else n) + k
    split true n k = omega arith
    split false n k = omega arith

    first : {A : Type 0} (p : A → Bool) (xs : List A) (i : ℕ) → i < length xs
        → count_by p (drop i xs)
        ≡ (if option_map_or p (slice_get xs i) false then 1 else 0) + count_by p (drop (i + 1) xs)
    first p [] i lt = absurd (omega (arith, lt))
    first p (x ∷ xs) zero lt = sum_by-cons (λ y. if p y then 1 else 0) x xs
    first {A = A} p (x ∷ xs) (suc i) lt =
        let more : suc i + 1 ≡ suc (i + 1) = omega arith in
        first p xs i (omega (arith, lt))
        ∙ ap (λ (k : ℕ). (if option_map_or p (slice_get xs i) false then 1 else 0) + count_by p (drop k (x ∷ xs)))
        (sym more)

pub count-within : (b : Bool) (n i : ℕ) → n ≤ i → (if b then n + 1 else n) ≤ i + 1
count-within true n i le = omega (arith, le)
count-within false n i le = omega (arith, le)

-- what the rest gives is what its first gives, and then what is behind it
pub fetch-first : (from : ℕ) (items : List (Numbered ReadyRow)) (i : ℕ) (one : Numbered ReadyRow)
    → slice_get items i ≡ Some one
    → fetched_rows from (one ∷ []) ++ fetched_rows from (drop (i + 1) items) ≡ fetched_rows from (drop i items)
fetch-first from [] i one is = absurd cc
fetch-first from (x ∷ items) zero one is =
    let same : one ≡ x = cc in
    ap (λ (o : Numbered ReadyRow). fetched_rows from (o ∷ []) ++ fetched_rows from items) same
    ∙ elim (cases_Bool (nat_le from x.number)) [
      | inl t ↦
          ap (λ (ds : List Delivery). ds ++ fetched_rows from items)
          (cond-true (nat_le from x.number) (delivery_at x ∷ []) [] t)
          ∙ sym (cond-true (nat_le from x.number) (delivery_at x ∷ fetched_rows from items) (fetched_rows from items) t)
      | inr f ↦
          ap (λ (ds : List Delivery). ds ++ fetched_rows from items)
          (cond-false (nat_le from x.number) (delivery_at x ∷ []) [] f)
          ∙ sym (cond-false (nat_le from x.number) (delivery_at x ∷ fetched_rows from items) (fetched_rows from items) f)
    ]
fetch-first from (x ∷ items) (suc i) one is =
    let more : suc i + 1 ≡ suc (i + 1) = omega arith in
    ap (λ (k : ℕ). fetched_rows from (one ∷ []) ++ fetched_rows from (drop k (x ∷ items))) more
    ∙ fetch-first from items i one is

-- rows in memory give what the parts' messages give
pub fetch-is : (from : ℕ) (id : ConsumerId) (items : List (Numbered ReadyRow))
    → fetched_rows from items ≡ map delivery_of (filter (is_from from) (map (out_item id) items))
fetch-is from id [] = refl
fetch-is from id (one ∷ items) =
    let rest : List Item = filter (is_from from) (map (out_item id) items) in
    elim (cases_Bool (nat_le from one.number)) [
      | inl t ↦
          cond-true (nat_le from one.number) (delivery_at one ∷ fetched_rows from items) (fetched_rows from items) t
          ∙ ap (λ (ds : List Delivery). delivery_at one ∷ ds) (fetch-is from id items)
          ∙ sym (ap (map delivery_of) (cond-true (nat_le from one.number) (out_item id one ∷ rest) rest t))
      | inr f ↦
          cond-false (nat_le from one.number) (delivery_at one ∷ fetched_rows from items) (fetched_rows from items) f
          ∙ fetch-is from id items
          ∙ sym (ap (map delivery_of) (cond-false (nat_le from one.number) (out_item id one ∷ rest) rest f))
    ]
