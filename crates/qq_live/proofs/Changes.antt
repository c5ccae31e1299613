-- What becomes of slots where an index has a holder more or less, and where free ones leave.
use Rattle.std.proofs.Common.{◌≡◌, ℕ, zero, suc, ◌+◌, ◌-◌, ◌*◌, ◌<◌, ◌≤◌, ◌⊎◌, Bool, true, false, not, List, [], ◌∷◌, ◌++◌, Some, None, length, take, drop, refl, sym, ap, ◌∙◌, subst, inl, inr, arith, if◌then◌else◌}
use Rattle.std.specs.Prelude.{nat_lt, nat_eq, slice_get, slice_set, insert, sum_by, filter, replicate}
use Rattle.std.specs.List.Sorted.{IsPermutation}
use Rattle.std.proofs.lemmas.List.Sorted.{sum_by-IsPermutation}
use Rattle.std.proofs.lemmas.Bool.{cases_Bool, cond-true, cond-false, cond_both, ltb-false, ne_eqb, eqb-true, eqb-false, not-true}
use Rattle.std.proofs.lemmas.List.{take_more}
use Rattle.std.proofs.lemmas.Option.{slice_get_within, get_or_from_slice_get}
use Rattle.std.proofs.lemmas.List.Sums.{sum_by-append, sum_by-cons, sum_by-insert, length-filter}
use Rattle.std.proofs.lemmas.List.Edits.{length-insert}
use Rattle.qq_base.specs.declared.ids.Index.{Index}
use Rattle.qq_base.proofs.Lists.{AllByRecursion-filter}
use Rattle.qq_live.specs.declared.slot.Slot.{Slot}
use Rattle.qq_live.specs.Indices.{is_index, occurrences, Adds, Removes}
use Rattle.qq_live.specs.Slots.{is_held, is_free, held_of, held_count, SlotsRise, is_front_free, AreFronted, AreSlots, Trims, Gains, Loses, place_of, holders_at}
use Rattle.qq_live.proofs.Places.{IsThere, is-there, rises-set, rises-insert, place-most}
use Rattle.qq_live.proofs.Sums.{holders_of, all_holders, one_if_held, held-sum, held-length, occurrences-cons, placed-sum, count_at}

-- a sum over slots of which one is put in the place of another
sum-set : (f : Slot → ℕ) (slots : List Slot) (place : ℕ) (old new : Slot) → slice_get slots place ≡ Some old
    → sum_by f (slice_set slots place new) + f old ≡ sum_by f slots + f new
sum-set f [] place old new at = absurd cc
sum-set f (slot ∷ slots) zero old new at =
    let same : slot ≡ old = cc in
    let is = ap f same in
    let a = sum_by-cons f new slots in
    let b = sum_by-cons f slot slots in omega (arith, is, a, b)
sum-set f (slot ∷ slots) (suc place) old new at =
    let rest = sum-set f slots place old new at in
    let a = sum_by-cons f slot (slice_set slots place new) in
    let b = sum_by-cons f slot slots in omega (arith, rest, a, b)

set-long : (slots : List Slot) (place : ℕ) (new : Slot) → length (slice_set slots place new) ≡ length slots
set-long [] place new = refl
set-long (slot ∷ slots) zero new = refl
set-long (slot ∷ slots) (suc place) new = ap suc (set-long slots place new)

lit : (n : ℕ) → 0 < n → nat_lt 0 n ≡ true
lit n more = by (cases_Bool (nat_lt 0 n))
  where
    by : (nat_lt 0 n ≡ true) ⊎ (nat_lt 0 n ≡ false) → nat_lt 0 n ≡ true
    by (inl is) = is
    by (inr none) = let le = ltb-false 0 n none in absurd (omega (arith, more, le))

abbrev one_if : Bool → ℕ
one_if b = if b then 1 else 0

by-held : (holders : ℕ) → 0 < holders → one_if (nat_lt 0 holders) ≡ 1
by-held n more = ap one_if (lit n more)

-- the holders of an index that one slot has
own-holders : (i : ℕ) (index : Index) (slot : Slot) → slot.index.0 ≡ index.0
    → holders_of i slot ≡ (if nat_eq index.0 i then slot.holders else 0)
own-holders i index slot own = ap (λ (n : ℕ). if nat_eq n i then slot.holders else 0) own

-- ---- a holder more

front-set : (slots : List Slot) (place : ℕ) (new : Slot) → is_held new ≡ true → is_front_free slots ≡ false
    → is_front_free (slice_set slots place new) ≡ false
front-set [] place new held front = refl
front-set (slot ∷ slots) zero new held front = ap not held
front-set (slot ∷ slots) (suc place) new held front = front

front-insert : (slots : List Slot) (place : ℕ) (new : Slot) → is_held new ≡ true → is_front_free slots ≡ false
    → is_front_free (insert slots place new) ≡ false
front-insert [] zero new held front = ap not held
front-insert [] (suc place) new held front = ap not held
front-insert (slot ∷ slots) zero new held front = ap not held
front-insert (slot ∷ slots) (suc place) new held front = front

abbrev pub slot_of : Index → ℕ → Slot
slot_of index holders = record { index = index; holders = holders }

more-held : (b : Bool) (n m k : ℕ) → m + (if b then k else 0) ≡ n + (if b then k + 1 else 0)
    → m ≡ n + (if b then 1 else 0)
more-held true n m k is = omega (arith, is)
more-held false n m k is = omega (arith, is)

fresh-count : (holders n m : ℕ) → m + one_if (nat_lt 0 holders) ≡ n + 1 → m ≡ n + one_if (nat_eq holders 0)
fresh-count zero n m is = omega (arith, is)
fresh-count (suc holders) n m is =
    let a = by-held (suc holders) (omega arith) in
    let b : one_if (nat_eq (suc holders) 0) ≡ 0 = ap one_if (ne_eqb (suc holders) 0 (λ e. absurd (omega (arith, e)))) in
    omega (arith, is, a, b)

gains-own : (index : Index) (holders : ℕ) (slots new : List Slot) → AreFronted slots
    → holders_at index (place_of index slots) slots ≡ Some holders
    → new ≡ slice_set slots (place_of index slots) (slot_of index (holders + 1))
    → Gains index slots new (nat_eq holders 0)
gains-own index holders slots new are told is =
    subst (λ (xs : List Slot). Gains index slots xs (nat_eq holders 0)) (sym is) made
  where
    place : ℕ
    place = place_of index slots

    there : IsThere index (place_of index slots) holders slots
    there = is-there index (place_of index slots) holders slots told

    put : Slot
    put = slot_of index (holders + 1)

    after : List Slot
    after = slice_set slots (place_of index slots) (slot_of index (holders + 1))

    shines : is_held (slot_of index (holders + 1)) ≡ true
    shines = lit (holders + 1) (omega arith)

    sum : (f : Slot → ℕ) → sum_by f after + f there.slot ≡ sum_by f slots + f put
    sum f = sum-set f slots (place_of index slots) there.slot put there.at

    made : Gains index slots after (nat_eq holders 0)
    made = record {
      fronted = record {
        rising = rises-set slots (place_of index slots) there.slot put are.rising there.at there.own;
        front = front-set slots (place_of index slots) put shines are.front;
      };
      held =
          λ i.
          let s = sum (holders_of i) in
          let old : holders_of i there.slot ≡ (if nat_eq index.0 i then holders else 0) =
          own-holders i index there.slot there.own
          ∙ ap (λ (n : ℕ). if nat_eq index.0 i then n else 0) there.many in
          let m = more-held (nat_eq index.0 i) (sum_by (holders_of i) slots) (sum_by (holders_of i) after) holders
          (ap (λ (n : ℕ). sum_by (holders_of i) after + n) (sym old) ∙ s) in
          let a = held-sum i after in
          let b = held-sum i slots in
          let e = occurrences-cons i index [] in
          let z : occurrences i [] ≡ 0 = refl in
          omega (arith, m, a, b, e, z);
      total =
          let s = sum all_holders in
          let h = there.many in
          let a = held-length after in
          let b = held-length slots in omega (arith, s, h, a, b);
      count =
          let s = sum one_if_held in
          let old : one_if_held there.slot ≡ (if nat_lt 0 holders then 1 else 0) =
          ap (λ (n : ℕ). if nat_lt 0 n then 1 else 0) there.many in
          let own : one_if_held put ≡ 1 = cond-true (is_held put) 1 0 shines in
          fresh-count holders (held_count slots) (held_count after)
          (ap (λ (n : ℕ). held_count after + n) (sym old) ∙ s ∙ ap (λ (n : ℕ). held_count slots + n) own);
      longer = let long = set-long slots (place_of index slots) put in omega (arith, long);
    }

gains-new : (index : Index) (slots new : List Slot) → AreFronted slots
    → holders_at index (place_of index slots) slots ≡ None
    → new ≡ insert slots (place_of index slots) (slot_of index 1) → Gains index slots new true
gains-new index slots new are none is = subst (λ (xs : List Slot). Gains index slots xs true) (sym is) made
  where
    put : Slot
    put = slot_of index 1

    after : List Slot
    after = insert slots (place_of index slots) (slot_of index 1)

    sum : (f : Slot → ℕ) → sum_by f after ≡ sum_by f slots + f put
    sum f = sum_by-insert f slots (place_of index slots) put

    made : Gains index slots after true
    made = record {
      fronted = record {
        rising = rises-insert index slots put are.rising refl none;
        front = front-insert slots (place_of index slots) put refl are.front;
      };
      held =
          λ i.
          let s = sum (holders_of i) in
          let a = held-sum i after in
          let b = held-sum i slots in
          let e = occurrences-cons i index [] in
          let z : occurrences i [] ≡ 0 = refl in
          omega (arith, s, a, b, e, z);
      total =
          let s = sum all_holders in
          let a = held-length after in
          let b = held-length slots in omega (arith, s, a, b);
      count = let s = sum one_if_held in omega (arith, s);
      longer =
          let long = length-insert slots (place_of index slots) put (place-most index slots) in omega (arith, long);
    }

-- at the place that a search has found
pub gains-set : (index : Index) (holders place : ℕ) (slots new : List Slot) → AreFronted slots
    → place ≡ place_of index slots → holders_at index place slots ≡ Some holders
    → new ≡ slice_set slots place (slot_of index (holders + 1)) → Gains index slots new (nat_eq holders 0)
gains-set index holders place slots new are at told is =
    gains-own index holders slots new are (ap (λ (k : ℕ). holders_at index k slots) (sym at) ∙ told)
    (is ∙ ap (λ (k : ℕ). slice_set slots k (slot_of index (holders + 1))) at)

pub gains-insert : (index : Index) (place : ℕ) (slots new : List Slot) → AreFronted slots
    → place ≡ place_of index slots → holders_at index place slots ≡ None
    → new ≡ insert slots place (slot_of index 1) → Gains index slots new true
gains-insert index place slots new are at told is =
    gains-new index slots new are (ap (λ (k : ℕ). holders_at index k slots) (sym at) ∙ told)
    (is ∙ ap (λ (k : ℕ). insert slots k (slot_of index 1)) at)

-- the holders of one slot are at most all
pub there-most : (index : Index) (place holders : ℕ) (slots : List Slot) → holders_at index place slots ≡ Some holders
    → holders ≤ length (held_of slots)
there-most index place holders slots told =
    let there = is-there index place holders slots told in
    let s = sum-set all_holders slots place there.slot (slot_of index 0) there.at in
    let many = there.many in
    let long = held-length slots in omega (arith, s, many, long)

-- ---- a holder less

front-less : (slots : List Slot) (place : ℕ) (new : Slot) → is_held new ≡ true → is_front_free slots ≡ false
    → is_front_free (slice_set slots place new) ≡ false
front-less slots place new held front = front-set slots place new held front

less-held : (b : Bool) (n m k : ℕ) → 0 < k → m + (if b then k else 0) ≡ n + (if b then k - 1 else 0)
    → m ≡ n - (if b then 1 else 0)
less-held true n m k more is = omega (arith, is, more)
less-held false n m k more is = omega (arith, is)

last-count : (holders n m : ℕ) → 0 < holders → m + 1 ≡ n + one_if (nat_lt 0 (holders - 1))
    → m + one_if (nat_eq holders 1) ≡ n
last-count zero n m more is = absurd (omega (arith, more))
last-count (suc zero) n m more is = omega (arith, is)
last-count (suc (suc holders)) n m more is =
    let a = by-held (suc (suc holders) - 1) (omega arith) in
    let b : one_if (nat_eq (suc (suc holders)) 1) ≡ 0 =
    ap one_if (ne_eqb (suc (suc holders)) 1 (λ e. absurd (omega (arith, e)))) in
    omega (arith, is, a, b)

still-held : (holders : ℕ) → 0 < holders → nat_eq holders 1 ≡ false → nat_lt 0 (holders - 1) ≡ true
still-held zero more is = absurd (omega (arith, more))
still-held (suc zero) more is = absurd (let e : true ≡ false = is in cc)
still-held (suc (suc holders)) more is = lit (suc (suc holders) - 1) (omega arith)

pub loses-set : (index : Index) (place holders : ℕ) (slots new : List Slot) → AreFronted slots
    → place ≡ place_of index slots → holders_at index place slots ≡ Some holders → 0 < holders
    → new ≡ slice_set slots place (slot_of index (holders - 1)) → Loses index slots new (nat_eq holders 1)
loses-set index place holders slots new are own told held is =
    subst (λ (xs : List Slot). Loses index slots xs (nat_eq holders 1)) (sym is) made
  where
    there : IsThere index place holders slots
    there = is-there index place holders slots told

    put : Slot
    put = slot_of index (holders - 1)

    after : List Slot
    after = slice_set slots place (slot_of index (holders - 1))

    sum : (f : Slot → ℕ) → sum_by f after + f there.slot ≡ sum_by f slots + f put
    sum f = sum-set f slots place there.slot put there.at

    made : Loses index slots after (nat_eq holders 1)
    made = record {
      rising = rises-set slots place there.slot put are.rising there.at there.own;
      held =
          λ i.
          let s = sum (holders_of i) in
          let old : holders_of i there.slot ≡ (if nat_eq index.0 i then holders else 0) =
          own-holders i index there.slot there.own
          ∙ ap (λ (n : ℕ). if nat_eq index.0 i then n else 0) there.many in
          let m = less-held (nat_eq index.0 i) (sum_by (holders_of i) slots) (sum_by (holders_of i) after) holders held
          (ap (λ (n : ℕ). sum_by (holders_of i) after + n) (sym old) ∙ s) in
          let a = held-sum i after in
          let b = held-sum i slots in
          let e = occurrences-cons i index [] in
          let z : occurrences i [] ≡ 0 = refl in
          omega (arith, m, a, b, e, z);
      total =
          let s = sum all_holders in
          let h = there.many in
          let a = held-length after in
          let b = held-length slots in omega (arith, s, h, a, b, held);
      count =
          let s = sum one_if_held in
          let old : one_if_held there.slot ≡ 1 =
          ap (λ (n : ℕ). if nat_lt 0 n then 1 else 0) there.many ∙ by-held holders held in
          last-count holders (held_count slots) (held_count after) held
          (ap (λ (n : ℕ). held_count after + n) (sym old) ∙ s);
      front = λ stays. front-set slots place put (still-held holders held stays) are.front;
      long = set-long slots place put;
    }

-- ---- free ones leave

free-none : (slot : Slot) → is_free slot ≡ true → slot.holders ≡ 0
free-none slot free = let le = ltb-false 0 slot.holders (not-true (is_held slot) free) in omega (arith, le)

held-skips : (slot : Slot) (slots : List Slot) → is_free slot ≡ true → held_of (slot ∷ slots) ≡ held_of slots
held-skips slot slots free =
    ap (λ (n : ℕ). held_of (slot_of slot.index n ∷ slots)) (free-none slot free)

pub front-trims : (slots : List Slot) → is_front_free slots ≡ true → Trims slots (drop 1 slots)
front-trims [] free = absurd cc
front-trims (slot ∷ slots) free = record {
  held = sym (held-skips slot slots free);
  count =
      let a = sum_by-cons one_if_held slot slots in
      let b : one_if_held slot ≡ 0 = cond-false (is_held slot) 1 0 (not-true (is_held slot) free) in
      omega (arith, a, b);
  rising = λ rises. rises.1;
}

pub front-short : (slots : List Slot) → is_front_free slots ≡ true → length (drop 1 slots) + 1 ≡ length slots
front-short [] free = absurd cc
front-short (slot ∷ slots) free = omega arith

pub held-filter : (slots : List Slot) → held_of (filter is_held slots) ≡ held_of slots
held-filter [] = refl
held-filter (slot ∷ slots) = by (cases_Bool (is_held slot)) (held-filter slots)
  where
    by : (is_held slot ≡ true) ⊎ (is_held slot ≡ false) → held_of (filter is_held slots) ≡ held_of slots
        → held_of (filter is_held (slot ∷ slots)) ≡ held_of (slot ∷ slots)
    by (inl held) rest =
        ap held_of (cond-true (is_held slot) (slot ∷ filter is_held slots) (filter is_held slots) held)
        ∙ ap (λ (xs : List Index). replicate slot.holders slot.index ++ xs) rest
    by (inr free) rest =
        ap held_of (cond-false (is_held slot) (slot ∷ filter is_held slots) (filter is_held slots) free)
        ∙ rest ∙ sym (held-skips slot slots (ap not free))

rises-filter : (slots : List Slot) → SlotsRise slots → SlotsRise (filter is_held slots)
rises-filter [] rising = tt
rises-filter (slot ∷ slots) rising =
    let rest = rises-filter slots rising.1 in
    cond_both (is_held slot) (slot ∷ filter is_held slots) (filter is_held slots) SlotsRise
    (λ _. (AllByRecursion-filter (λ (other : Slot). slot.index.0 < other.index.0) is_held slots rising.0, rest))
    (λ _. rest)

front-filter : (slots : List Slot) → is_front_free (filter is_held slots) ≡ false
front-filter [] = refl
front-filter (slot ∷ slots) = by (cases_Bool (is_held slot)) (front-filter slots)
  where
    by : (is_held slot ≡ true) ⊎ (is_held slot ≡ false) → is_front_free (filter is_held slots) ≡ false
        → is_front_free (filter is_held (slot ∷ slots)) ≡ false
    by (inl held) rest =
        ap is_front_free (cond-true (is_held slot) (slot ∷ filter is_held slots) (filter is_held slots) held)
        ∙ ap not held
    by (inr free) rest =
        ap is_front_free (cond-false (is_held slot) (slot ∷ filter is_held slots) (filter is_held slots) free) ∙ rest

count-filter : (slots : List Slot) → held_count (filter is_held slots) ≡ held_count slots
count-filter [] = refl
count-filter (slot ∷ slots) = by (cases_Bool (is_held slot)) (count-filter slots)
  where
    by : (is_held slot ≡ true) ⊎ (is_held slot ≡ false) → held_count (filter is_held slots) ≡ held_count slots
        → held_count (filter is_held (slot ∷ slots)) ≡ held_count (slot ∷ slots)
    by (inl held) rest =
        let a : held_count (filter is_held (slot ∷ slots)) ≡ held_count (slot ∷ filter is_held slots) =
        ap held_count (cond-true (is_held slot) (slot ∷ filter is_held slots) (filter is_held slots) held) in
        let b = sum_by-cons one_if_held slot (filter is_held slots) in
        let e = sum_by-cons one_if_held slot slots in omega (arith, a, b, e, rest)
    by (inr free) rest =
        let a : held_count (filter is_held (slot ∷ slots)) ≡ held_count (filter is_held slots) =
        ap held_count (cond-false (is_held slot) (slot ∷ filter is_held slots) (filter is_held slots) free) in
        let b : one_if_held slot ≡ 0 = cond-false (is_held slot) 1 0 free in
        let e = sum_by-cons one_if_held slot slots in omega (arith, a, b, e, rest)

-- what is left once all that are free have left
pub record IsFit (count : ℕ) (old new : List Slot) : Type 0 where
  pub held : held_of new ≡ held_of old
  pub fronted : AreFronted new
  pub own : held_count new ≡ count
  pub half : length new ≤ 2 * count

pub fits : (count : ℕ) (old new : List Slot) → AreFronted old → held_count old ≡ count → new ≡ filter is_held old
    → IsFit count old new
fits count old new are own is =
    subst (IsFit count old) (sym is)
    (record {
      held = held-filter old;
      fronted = record { rising = rises-filter old are.rising; front = front-filter old };
      own = count-filter old ∙ own;
      half = let long = length-filter is_held old in omega (arith, long, own);
    })

-- ---- whole calls

pub slots-gain : (index : Index) (count total : ℕ) (old new : List Slot) (fresh : Bool) → AreSlots count total old
    → Gains index old new fresh → AreSlots (if fresh then count + 1 else count) (total + 1) new
slots-gain index count total old new true are gains =
    record {
      fronted = gains.fronted;
      long = let a = are.long in let b = gains.count in omega (arith, a, b);
      sum = let a = are.sum in let b = gains.total in omega (arith, a, b);
      half = let a = are.half in let b = gains.longer in omega (arith, a, b);
    }
slots-gain index count total old new false are gains =
    record {
      fronted = gains.fronted;
      long = let a = are.long in let b = gains.count in omega (arith, a, b);
      sum = let a = are.sum in let b = gains.total in omega (arith, a, b);
      half = let a = are.half in let b = gains.longer in omega (arith, a, b);
    }

pub count-most : (slots : List Slot) → held_count slots ≤ length (held_of slots)
count-most [] = omega arith
count-most (slot ∷ slots) =
    let rest = count-most slots in
    let a = sum_by-cons one_if_held slot slots in
    let b = held-length (slot ∷ slots) in
    let e = sum_by-cons all_holders slot slots in
    let d = held-length slots in
    let one = at slot.holders in omega (arith, rest, a, b, e, d, one)
  where
    at : (n : ℕ) → one_if (nat_lt 0 n) ≤ n
    at zero = omega arith
    at (suc n) = let one = by-held (suc n) (omega arith) in omega (arith, one)

-- ---- what a search tells

pub holders-told : (index : Index) (place : ℕ) (slots : List Slot) (indices : List Index) → SlotsRise slots
    → place ≡ place_of index slots → held_of slots ≡ indices
    → occurrences index.0 indices ≡ count_at (holders_at index place slots)
holders-told index place slots indices rising at is =
    ap (occurrences index.0) (sym is) ∙ held-sum index.0 slots ∙ placed-sum index slots rising
    ∙ ap (λ (k : ℕ). count_at (holders_at index k slots)) (sym at)

-- one that isn't held stays so
pub none-held : (index : Index) (indices : List Index) → occurrences index.0 indices ≡ 0
    → false ≡ nat_lt 0 (occurrences index.0 indices)
none-held index indices none = ap (nat_lt 0) (sym none)

pub some-held : (index : Index) (indices : List Index) (n : ℕ) → occurrences index.0 indices ≡ n → 0 < n
    → true ≡ nat_lt 0 (occurrences index.0 indices)
some-held index indices n is more = sym (lit (occurrences index.0 indices) (omega (arith, is, more)))

pub none-removed : (index : Index) (indices : List Index) → occurrences index.0 indices ≡ 0
    → Removes (index ∷ []) indices indices
none-removed index indices none i = by (cases_Bool (nat_eq index.0 i))
  where
    by : (nat_eq index.0 i ≡ true) ⊎ (nat_eq index.0 i ≡ false)
        → occurrences i indices ≡ occurrences i indices - occurrences i (index ∷ [])
    by (inl same) =
        let e : index.0 ≡ i = eqb-true index.0 i same in
        let zero' : occurrences i indices ≡ 0 = ap (λ (k : ℕ). occurrences k indices) (sym e) ∙ none in
        omega (arith, zero')
    by (inr other) =
        let one : one_if (nat_eq index.0 i) ≡ 0 = ap one_if other in
        let all : occurrences i (index ∷ []) ≡ one_if (nat_eq index.0 i) + 0 = occurrences-cons i index [] in
        omega (arith, one, all)

pub above-zero : (n : ℕ) → nat_eq n 0 ≡ false → 0 < n
above-zero zero is = absurd (eqb-false 0 0 is refl)
above-zero (suc n) is = omega arith

-- ---- indices one after the other

at-more : (indices : List Index) (place : ℕ) (index : Index) → slice_get indices place ≡ Some index
    → take (place + 1) indices ≡ take place indices ++ index ∷ []
at-more indices place index at =
    take_more indices place index (slice_get_within indices place index at)
    ∙ ap (λ (y : Index). take place indices ++ y ∷ []) (get_or_from_slice_get indices place index index at)

occurrences-more : (i place : ℕ) (indices : List Index) (index : Index) → slice_get indices place ≡ Some index
    → occurrences i (take (place + 1) indices) ≡ occurrences i (take place indices) + occurrences i (index ∷ [])
occurrences-more i place indices index at =
    ap (occurrences i) (at-more indices place index at) ∙ sum_by-append _ (take place indices) (index ∷ [])

pub adds-more : (indices old now new : List Index) (place : ℕ) (index : Index) → slice_get indices place ≡ Some index
    → Adds (take place indices) old now → Adds (index ∷ []) now new → Adds (take (place + 1) indices) old new
adds-more indices old now new place index at so_far more i =
    let a = so_far i in
    let b = more i in
    let e = occurrences-more i place indices index at in omega (arith, a, b, e)

pub removes-more : (indices old now new : List Index) (place : ℕ) (index : Index)
    → slice_get indices place ≡ Some index → Removes (take place indices) old now → Removes (index ∷ []) now new
    → Removes (take (place + 1) indices) old new
removes-more indices old now new place index at so_far more i =
    let a = so_far i in
    let b = more i in
    let e = occurrences-more i place indices index at in omega (arith, a, b, e)

pub adds-none : (indices : List Index) → Adds [] indices indices
adds-none indices i = let z : occurrences i [] ≡ 0 = refl in omega (arith, z)

pub removes-none : (indices : List Index) → Removes [] indices indices
removes-none indices i = let z : occurrences i [] ≡ 0 = refl in omega (arith, z)

take-end : (indices : List Index) (n : ℕ) → length indices ≤ n → take n indices ≡ indices
take-end [] zero le = refl
take-end [] (suc n) le = refl
take-end (index ∷ indices) zero le = absurd (omega (arith, le))
take-end (index ∷ indices) (suc n) le = ap (λ (xs : List Index). index ∷ xs) (take-end indices n (omega (arith, le)))

pub adds-all : (indices old new : List Index) (n : ℕ) → length indices ≤ n → Adds (take n indices) old new
    → Adds indices old new
adds-all indices old new n le adds =
    subst (λ (xs : List Index). Adds xs old new) (take-end indices n le) adds

pub removes-all : (indices old new : List Index) (n : ℕ) → length indices ≤ n → Removes (take n indices) old new
    → Removes indices old new
removes-all indices old new n le removes =
    subst (λ (xs : List Index). Removes xs old new) (take-end indices n le) removes

pub from-sorted : (given sorted new live : List Index) → IsPermutation given sorted → new ≡ [] → Adds sorted new live
    → (i : ℕ) → occurrences i live ≡ occurrences i given
from-sorted given sorted new live perm none adds i =
    let a = adds i in
    let b = sum_by-IsPermutation (λ (index : Index). if is_index i index then 1 else 0) given sorted perm in
    let z : occurrences i new ≡ 0 = ap (occurrences i) none in omega (arith, a, b, z)
