-- How often an index is held, as a sum over slots, and the least index that is.
use Rattle.std.proofs.Common.{◌≡◌, ℕ, suc, ◌+◌, ◌*◌, ◌<◌, ◌≤◌, ◌⊎◌, Bool, true, false, not, List, [], ◌∷◌, Option, Some, None, length, refl, sym, ap, ◌∙◌, subst, inl, inr, arith, if◌then◌else◌}
use Rattle.std.specs.Prelude.{nat_lt, nat_eq, slice_get, sum_by, replicate}
use Rattle.std.specs.List.{AllByRecursion}
use Rattle.std.specs.Option.{option_map}
use Rattle.std.proofs.lemmas.Bool.{cases_Bool, cond-true, cond-false, ltb-true, ltb-false, ne_eqb, eqb-false}
use Rattle.std.proofs.lemmas.List.{length-append, length-replicate}
use Rattle.std.proofs.lemmas.List.Sums.{sum_by-append, sum_by-cons}
use Rattle.std.proofs.lemmas.List.Folds.{sum_by-replicate}
use Rattle.qq_base.specs.declared.ids.Index.{Index}
use Rattle.qq_live.specs.declared.slot.Slot.{Slot}
use Rattle.qq_live.specs.Indices.{is_index, occurrences, lesser, least}
use Rattle.qq_live.specs.Slots.{is_held, held_of, SlotsRise, is_front_free, place_of, holders_at}

-- how many hold an index in a slot, and how many hold the slot
abbrev pub holders_of : ℕ → Slot → ℕ
holders_of i slot = if nat_eq slot.index.0 i then slot.holders else 0

abbrev pub all_holders : Slot → ℕ
all_holders slot = slot.holders

abbrev pub one_if_held : Slot → ℕ
one_if_held slot = if is_held slot then 1 else 0

abbrev one_if_index : ℕ → Index → ℕ
one_if_index i index = if is_index i index then 1 else 0

times : (b : Bool) (n : ℕ) → n * (if b then 1 else 0) ≡ (if b then n else 0)
times true n = omega arith
times false n = omega arith

pub held-sum : (i : ℕ) (slots : List Slot) → occurrences i (held_of slots) ≡ sum_by (holders_of i) slots
held-sum i [] = refl
held-sum i (slot ∷ slots) =
    sum_by-append (one_if_index i) (replicate slot.holders slot.index) (held_of slots)
    ∙ ap (λ (n : ℕ). n + occurrences i (held_of slots))
    (sum_by-replicate (one_if_index i) slot.holders slot.index ∙ times (nat_eq slot.index.0 i) slot.holders)
    ∙ ap (λ (n : ℕ). holders_of i slot + n) (held-sum i slots)
    ∙ sym (sum_by-cons (holders_of i) slot slots)

pub held-length : (slots : List Slot) → length (held_of slots) ≡ sum_by all_holders slots
held-length [] = refl
held-length (slot ∷ slots) =
    length-append (replicate slot.holders slot.index) (held_of slots)
    ∙ ap (λ (n : ℕ). n + length (held_of slots)) (length-replicate slot.holders slot.index)
    ∙ ap (λ (n : ℕ). slot.holders + n) (held-length slots)
    ∙ sym (sum_by-cons all_holders slot slots)

-- ---- an index below all slots has no holders

none-above : (i : ℕ) (slots : List Slot) → AllByRecursion (λ (slot : Slot). i < slot.index.0) slots
    → sum_by (holders_of i) slots ≡ 0
none-above i [] each = refl
none-above i (slot ∷ slots) each =
    let first : holders_of i slot ≡ 0 =
    cond-false (nat_eq slot.index.0 i) slot.holders 0
    (ne_eqb slot.index.0 i (λ e. let l = each.0 in absurd (omega (arith, e, l)))) in
    let rest = none-above i slots each.1 in
    let all = sum_by-cons (holders_of i) slot slots in
    omega (arith, first, rest, all)

all-above : (i : ℕ) (slot : Slot) (slots : List Slot) → i ≤ slot.index.0
    → AllByRecursion (λ (other : Slot). slot.index.0 < other.index.0) slots
    → AllByRecursion (λ (other : Slot). i < other.index.0) slots
all-above i slot [] le each = tt
all-above i slot (other ∷ slots) le each =
    (let l = each.0 in omega (arith, le, l), all-above i slot slots le each.1)

abbrev pub count_at : Option ℕ → ℕ
count_at None = 0
count_at (Some n) = n

-- the holders of an index are those of the slot at its place
pub placed-sum : (index : Index) (slots : List Slot) → SlotsRise slots
    → sum_by (holders_of index.0) slots ≡ count_at (holders_at index (place_of index slots) slots)
placed-sum index [] rising = refl
placed-sum index (slot ∷ slots) rising = by (cases_Bool (nat_lt slot.index.0 index.0)) (placed-sum index slots rising.1)
  where
    told : (b : Bool) → count_at (if b then Some slot.holders else None) ≡ (if b then slot.holders else 0)
    told true = refl
    told false = refl

    by : (nat_lt slot.index.0 index.0 ≡ true) ⊎ (nat_lt slot.index.0 index.0 ≡ false)
        → sum_by (holders_of index.0) slots ≡ count_at (holders_at index (place_of index slots) slots)
        → sum_by (holders_of index.0) (slot ∷ slots)
        ≡ count_at (holders_at index (place_of index (slot ∷ slots)) (slot ∷ slots))
    by (inl less) rest =
        let l = ltb-true slot.index.0 index.0 less in
        let first : holders_of index.0 slot ≡ 0 =
        cond-false (nat_eq slot.index.0 index.0) slot.holders 0
        (ne_eqb slot.index.0 index.0 (λ e. absurd (omega (arith, e, l)))) in
        let all = sum_by-cons (holders_of index.0) slot slots in
        let at : count_at (holders_at index (place_of index (slot ∷ slots)) (slot ∷ slots))
        ≡ count_at (holders_at index (place_of index slots) slots) =
        ap (λ (k : ℕ). count_at (holders_at index k (slot ∷ slots)))
        (cond-true (nat_lt slot.index.0 index.0) (suc (place_of index slots)) 0 less) in
        omega (arith, first, rest, all, at)
    by (inr more) rest =
        let m = ltb-false slot.index.0 index.0 more in
        let others = none-above index.0 slots (all-above index.0 slot slots m rising.0) in
        let all = sum_by-cons (holders_of index.0) slot slots in
        let at : count_at (holders_at index (place_of index (slot ∷ slots)) (slot ∷ slots)) ≡ holders_of index.0 slot =
        ap (λ (k : ℕ). count_at (holders_at index k (slot ∷ slots)))
        (cond-false (nat_lt slot.index.0 index.0) (suc (place_of index slots)) 0 more)
        ∙ told (nat_eq slot.index.0 index.0) in
        omega (arith, others, all, at)

-- ---- the least index

-- the least of these is one of them, and none is below it
pub record IsLeast (indices : List Index) (low : ℕ) : Type 0 where
  pub there : 0 < occurrences low indices
  pub none : (i : ℕ) → i < low → occurrences i indices ≡ 0

pub occurrences-cons : (i : ℕ) (index : Index) (rest : List Index)
    → occurrences i (index ∷ rest) ≡ (if nat_eq index.0 i then 1 else 0) + occurrences i rest
occurrences-cons i index rest = sum_by-cons (one_if_index i) index rest

own-one : (i : ℕ) (index : Index) → index.0 ≡ i → one_if_index i index ≡ 1
own-one i index e = by (cases_Bool (nat_eq index.0 i))
  where
    by : (nat_eq index.0 i ≡ true) ⊎ (nat_eq index.0 i ≡ false) → one_if_index i index ≡ 1
    by (inl same) = cond-true (nat_eq index.0 i) 1 0 same
    by (inr other) = absurd (eqb-false index.0 i other e)

other-none : (i : ℕ) (index : Index) → (index.0 ≡ i → ⊥) → one_if_index i index ≡ 0
other-none i index differs = cond-false (nat_eq index.0 i) 1 0 (ne_eqb index.0 i differs)

abbrev LeastBy : List Index → Option ℕ → Type 0
LeastBy indices None = (i : ℕ) → occurrences i indices ≡ 0
LeastBy indices (Some low) = IsLeast indices low

pub least-is : (indices : List Index) → LeastBy indices (least indices)
least-is [] = λ i. refl
least-is (index ∷ rest) = by (least rest) (least-is rest)
  where
    by : (o : Option ℕ) → LeastBy rest o → LeastBy (index ∷ rest) (lesser index.0 o)
    by None none =
        record {
          there =
              let own = own-one index.0 index refl in
              let all = occurrences-cons index.0 index rest in omega (arith, own, all);
          none =
              λ i less.
              let other = other-none i index (λ e. absurd (omega (arith, e, less))) in
              let all = occurrences-cons i index rest in
              let later = none i in omega (arith, other, all, later);
        }
    by (Some low) is = at (cases_Bool (nat_lt low index.0))
      where
        at : (nat_lt low index.0 ≡ true) ⊎ (nat_lt low index.0 ≡ false)
            → IsLeast (index ∷ rest) (if nat_lt low index.0 then low else index.0)
        at (inl less) =
            subst (IsLeast (index ∷ rest)) (sym (cond-true (nat_lt low index.0) low index.0 less))
            (record {
              there =
                  let all = occurrences-cons low index rest in
                  let later = is.there in omega (arith, all, later);
              none =
                  λ i below.
                  let l = ltb-true low index.0 less in
                  let other = other-none i index (λ e. absurd (omega (arith, e, below, l))) in
                  let all = occurrences-cons i index rest in
                  let later = is.none i below in omega (arith, other, all, later);
            })
        at (inr more) =
            subst (IsLeast (index ∷ rest)) (sym (cond-false (nat_lt low index.0) low index.0 more))
            (record {
              there =
                  let own = own-one index.0 index refl in
                  let all = occurrences-cons index.0 index rest in omega (arith, own, all);
              none =
                  λ i below.
                  let m = ltb-false low index.0 more in
                  let other = other-none i index (λ e. absurd (omega (arith, e, below))) in
                  let all = occurrences-cons i index rest in
                  let later = is.none i (omega (arith, below, m)) in omega (arith, other, all, later);
            })

-- what is held as often has one least index
pub least-same : (xs ys : List Index) → ((i : ℕ) → occurrences i xs ≡ occurrences i ys) → least xs ≡ least ys
least-same xs ys same = by (least xs) (least ys) (least-is xs) (least-is ys)
  where
    by : (a b : Option ℕ) → LeastBy xs a → LeastBy ys b → a ≡ b
    by None None none none' = refl
    by None (Some low) none is =
        let there = is.there in
        let s = same low in let n = none low in absurd (omega (arith, there, s, n))
    by (Some low) None is none =
        let there = is.there in
        let s = same low in let n = none low in absurd (omega (arith, there, s, n))
    by (Some low) (Some low') is is' = ap (λ (n : ℕ). Some n) (at (cases_Bool (nat_lt low low')) (cases_Bool (nat_lt low' low)))
      where
        at : (nat_lt low low' ≡ true) ⊎ (nat_lt low low' ≡ false)
            → (nat_lt low' low ≡ true) ⊎ (nat_lt low' low ≡ false) → low ≡ low'
        at (inl less) other =
            let n = is'.none low (ltb-true low low' less) in
            let s = same low in
            let there = is.there in absurd (omega (arith, n, s, there))
        at (inr more) (inl less) =
            let n = is.none low' (ltb-true low' low less) in
            let s = same low' in
            let there = is'.there in absurd (omega (arith, n, s, there))
        at (inr more) (inr less) =
            let m = ltb-false low low' more in
            let l = ltb-false low' low less in omega (arith, m, l)

-- the first of slots that rise is the least, where it is held
pub first-least : (slots : List Slot) → SlotsRise slots → is_front_free slots ≡ false
    → option_map (λ (slot : Slot). slot.index.0) (slice_get slots 0) ≡ least (held_of slots)
first-least [] rising front = refl
first-least (slot ∷ slots) rising front = by (least (held_of (slot ∷ slots))) (least-is (held_of (slot ∷ slots)))
  where
    all : (i : ℕ) → occurrences i (held_of (slot ∷ slots)) ≡ holders_of i slot + sum_by (holders_of i) slots
    all i = held-sum i (slot ∷ slots) ∙ sum_by-cons (holders_of i) slot slots

    held : 0 < slot.holders
    held = at (cases_Bool (nat_lt 0 slot.holders))
      where
        at : (nat_lt 0 slot.holders ≡ true) ⊎ (nat_lt 0 slot.holders ≡ false) → 0 < slot.holders
        at (inl more) = ltb-true 0 slot.holders more
        at (inr none) = absurd (let e : true ≡ false = sym (ap not none) ∙ front in cc)

    there : occurrences slot.index.0 (held_of (slot ∷ slots)) ≡ slot.holders + sum_by (holders_of slot.index.0) slots
    there =
        all slot.index.0
        ∙ ap (λ (n : ℕ). n + sum_by (holders_of slot.index.0) slots) (own (cases_Bool (nat_eq slot.index.0 slot.index.0)))
      where
        own : (nat_eq slot.index.0 slot.index.0 ≡ true) ⊎ (nat_eq slot.index.0 slot.index.0 ≡ false)
            → holders_of slot.index.0 slot ≡ slot.holders
        own (inl same) = cond-true (nat_eq slot.index.0 slot.index.0) slot.holders 0 same
        own (inr other) = absurd (eqb-false slot.index.0 slot.index.0 other refl)

    below : (i : ℕ) → i < slot.index.0 → occurrences i (held_of (slot ∷ slots)) ≡ 0
    below i less =
        held-sum i (slot ∷ slots)
        ∙ none-above i (slot ∷ slots) (less, all-above i slot slots (omega (arith, less)) rising.0)

    by : (o : Option ℕ) → LeastBy (held_of (slot ∷ slots)) o → Some slot.index.0 ≡ o
    by None none = let n = none slot.index.0 in absurd (omega (arith, n, there, held))
    by (Some low) is = ap (λ (n : ℕ). Some n) (at (cases_Bool (nat_lt low slot.index.0)) (cases_Bool (nat_lt slot.index.0 low)))
      where
        at : (nat_lt low slot.index.0 ≡ true) ⊎ (nat_lt low slot.index.0 ≡ false)
            → (nat_lt slot.index.0 low ≡ true) ⊎ (nat_lt slot.index.0 low ≡ false) → slot.index.0 ≡ low
        at (inl less) other =
            let n = below low (ltb-true low slot.index.0 less) in
            let t = is.there in absurd (omega (arith, n, t))
        at (inr more) (inl less) =
            let n = is.none slot.index.0 (ltb-true slot.index.0 low less) in absurd (omega (arith, n, there, held))
        at (inr more) (inr less) =
            let m = ltb-false low slot.index.0 more in
            let l = ltb-false slot.index.0 low less in omega (arith, m, l)
