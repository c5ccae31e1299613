-- Where an index stands among slots that rise.
use Rattle.std.proofs.Common.{◌≡◌, ℕ, zero, suc, ◌-◌, ◌<◌, ◌≤◌, ◌⊎◌, Bool, true, false, List, [], ◌∷◌, Some, None, length, get_or, refl, sym, ap, ◌∙◌, subst, inl, inr, arith, if◌then◌else◌}
use Rattle.std.specs.Prelude.{nat_lt, nat_eq, slice_get, slice_set, insert}
use Rattle.std.specs.List.{AllByRecursion}
use Rattle.std.specs.List.Sorted.{IsNonDecreasingBy}
use Rattle.std.proofs.lemmas.List.{get_or_default}
use Rattle.std.proofs.lemmas.Bool.{cases_Bool, cond-true, cond-false, lt-ltb, ltb-true, ltb-false, eqb-true, eqb-false}
use Rattle.qq_base.specs.declared.ids.Index.{Index}
use Rattle.qq_base.proofs.Lists.{AllByRecursion-weaker}
use Rattle.qq_live.specs.declared.slot.Slot.{Slot}
use Rattle.qq_live.specs.Slots.{SlotsRise, place_of, holders_by, holders_at}

-- ---- a search's answer

pub place-is : (index : Index) (slots : List Slot) (i : ℕ) → i ≤ length slots
    → ((k : ℕ) (d : Slot) → k < i → nat_lt (get_or slots k d).index.0 index.0 ≡ true)
    → ((k : ℕ) (d : Slot) → i ≤ k → k < length slots → nat_lt (get_or slots k d).index.0 index.0 ≡ false)
    → i ≡ place_of index slots
place-is index [] i within front back = omega arith
place-is index (slot ∷ slots) zero within front back =
    sym (cond-false (nat_lt slot.index.0 index.0) (suc (place_of index slots)) 0
    (back 0 slot (omega arith) (omega arith)))
place-is index (slot ∷ slots) (suc i) within front back =
    ap suc (place-is index slots i (omega arith) (λ k d lt. front (suc k) d (omega arith))
    (λ k d le long. back (suc k) d (omega arith) (omega arith)))
    ∙ sym (cond-true (nat_lt slot.index.0 index.0) (suc (place_of index slots)) 0
    (front 0 slot (omega arith)))

-- as std's searches see rising numbers
all-at : (P : Slot → Type 0) (slots : List Slot) (i : ℕ) (d : Slot) → AllByRecursion P slots → i < length slots
    → P (get_or slots i d)
all-at P [] i d each within = absurd (omega arith)
all-at P (slot ∷ slots) zero d each within = each.0
all-at P (slot ∷ slots) (suc i) d each within = all-at P slots i d each.1 (omega arith)

pub rises-nondecreasing : (slots : List Slot) → SlotsRise slots
    → IsNonDecreasingBy (λ (slot : Slot). slot.index.0) slots
rises-nondecreasing [] rising i j d le within = absurd (omega arith)
rises-nondecreasing (slot ∷ slots) rising zero zero d le within = omega arith
rises-nondecreasing (slot ∷ slots) rising zero (suc j) d le within =
    let later : slot.index.0 < (get_or slots j d).index.0 =
    all-at (λ (other : Slot). slot.index.0 < other.index.0) slots j d rising.0 (omega arith) in
    omega arith
rises-nondecreasing (slot ∷ slots) rising (suc i) zero d le within = absurd (omega arith)
rises-nondecreasing (slot ∷ slots) rising (suc i) (suc j) d le within =
    rises-nondecreasing slots rising.1 i j d (omega arith) (omega arith)

-- an index above the last one stands behind all
pub place-behind : (index : Index) (slots : List Slot) (n : ℕ) (last : Slot) → SlotsRise slots → n ≡ length slots
    → 0 < n → last ≡ get_or slots (n - 1) last → last.index.0 < index.0 → n ≡ place_of index slots
place-behind index slots n last rising long some is above =
    place-is index slots n (omega (arith, long))
    (λ k d lt.
    let most : (get_or slots k last).index.0 ≤ (get_or slots (n - 1) last).index.0 =
    rises-nondecreasing slots rising k (n - 1) last (omega (arith, lt)) (omega (arith, long, some)) in
    let here : get_or slots k d ≡ get_or slots k last = get_or_default slots k d last (omega (arith, lt, long)) in
    let own : (get_or slots (n - 1) last).index.0 ≡ last.index.0 = ap (λ (s : Slot). s.index.0) (sym is) in
    let same : (get_or slots k d).index.0 ≡ (get_or slots k last).index.0 = ap (λ (s : Slot). s.index.0) here in
    lt-ltb (get_or slots k d).index.0 index.0 (omega (arith, most, own, same, above)))
    (λ k d le within. absurd (omega (arith, le, within, long)))

-- ---- its place

pub place-most : (index : Index) (slots : List Slot) → place_of index slots ≤ length slots
place-most index [] = omega arith
place-most index (slot ∷ slots) = by (nat_lt slot.index.0 index.0) (place-most index slots)
  where
    by : (b : Bool) → place_of index slots ≤ length slots
        → (if b then suc (place_of index slots) else 0) ≤ suc (length slots)
    by true rest = omega (arith, rest)
    by false rest = omega arith

-- the slot that stands at a place where holders are told
pub record IsThere (index : Index) (place holders : ℕ) (slots : List Slot) : Type 0 where
  pub slot : Slot
  pub at : slice_get slots place ≡ Some slot
  pub own : slot.index.0 ≡ index.0
  pub many : slot.holders ≡ holders
  pub within : place < length slots

pub is-there : (index : Index) (place holders : ℕ) (slots : List Slot) → holders_at index place slots ≡ Some holders
    → IsThere index place holders slots
is-there index place holders [] told = absurd cc
is-there index zero holders (slot ∷ slots) told = by (cases_Bool (nat_eq slot.index.0 index.0))
  where
    by : (nat_eq slot.index.0 index.0 ≡ true) ⊎ (nat_eq slot.index.0 index.0 ≡ false)
        → IsThere index zero holders (slot ∷ slots)
    by (inl own) =
        let is : Some slot.holders ≡ Some holders =
        sym (cond-true (nat_eq slot.index.0 index.0) (Some slot.holders) None own) ∙ told in
        record {
          slot = slot;
          at = refl;
          own = eqb-true slot.index.0 index.0 own;
          many = cc;
          within = omega arith;
        }
    by (inr other) =
        let is : None ≡ Some holders =
        sym (cond-false (nat_eq slot.index.0 index.0) (Some slot.holders) None other) ∙ told in
        absurd cc
is-there index (suc place) holders (slot ∷ slots) told =
    let rest = is-there index place holders slots told in
    record {
      slot = rest.slot;
      at = rest.at;
      own = rest.own;
      many = rest.many;
      within = let within = rest.within in omega (arith, within);
    }

-- ---- what still rises

all-set : (P : Slot → Type 0) (slots : List Slot) (place : ℕ) (new : Slot) → AllByRecursion P slots → P new
    → AllByRecursion P (slice_set slots place new)
all-set P [] place new each own = tt
all-set P (slot ∷ slots) zero new each own = (own, each.1)
all-set P (slot ∷ slots) (suc place) new each own = (each.0, all-set P slots place new each.1 own)

all-get : (P : Slot → Type 0) (slots : List Slot) (place : ℕ) (slot : Slot) → AllByRecursion P slots
    → slice_get slots place ≡ Some slot → P slot
all-get P [] place slot each at = absurd cc
all-get P (first ∷ slots) zero slot each at = let same : first ≡ slot = cc in subst P same each.0
all-get P (first ∷ slots) (suc place) slot each at = all-get P slots place slot each.1 at

-- a slot of the same index in the place of one
pub rises-set : (slots : List Slot) (place : ℕ) (old new : Slot) → SlotsRise slots → slice_get slots place ≡ Some old
    → old.index.0 ≡ new.index.0 → SlotsRise (slice_set slots place new)
rises-set [] place old new rising at same = tt
rises-set (slot ∷ slots) zero old new rising at same =
    let is : slot ≡ old = cc in
    let own : slot.index.0 ≡ new.index.0 = ap (λ (s : Slot). s.index.0) is ∙ same in (
      subst (λ (n : ℕ). AllByRecursion (λ (other : Slot). n < other.index.0) slots) own rising.0,
      rising.1,
    )
rises-set (slot ∷ slots) (suc place) old new rising at same = (
  all-set (λ (other : Slot). slot.index.0 < other.index.0) slots place new rising.0
      (subst (λ (n : ℕ). slot.index.0 < n) same
      (all-get (λ (other : Slot). slot.index.0 < other.index.0) slots place old rising.0 at)),
  rises-set slots place old new rising.1 at same,
)

all-insert : (P : Slot → Type 0) (slots : List Slot) (place : ℕ) (new : Slot) → AllByRecursion P slots → P new
    → AllByRecursion P (insert slots place new)
all-insert P [] zero new each own = (own, tt)
all-insert P [] (suc place) new each own = (own, tt)
all-insert P (slot ∷ slots) zero new each own = (own, each)
all-insert P (slot ∷ slots) (suc place) new each own = (each.0, all-insert P slots place new each.1 own)

-- a slot more, of an index that none has
pub rises-insert : (index : Index) (slots : List Slot) (new : Slot) → SlotsRise slots → new.index.0 ≡ index.0
    → holders_at index (place_of index slots) slots ≡ None → SlotsRise (insert slots (place_of index slots) new)
rises-insert index [] new rising own none = (tt, tt)
rises-insert index (slot ∷ slots) new rising own none =
    by (cases_Bool (nat_lt slot.index.0 index.0)) (rises-insert index slots new rising.1 own)
  where
    at : (k : ℕ) → place_of index (slot ∷ slots) ≡ k → holders_at index k (slot ∷ slots) ≡ None
    at k is = ap (λ (j : ℕ). holders_at index j (slot ∷ slots)) (sym is) ∙ none

    here : index.0 ≤ slot.index.0 → holders_by index slot ≡ None → SlotsRise (new ∷ slot ∷ slots)
    here le other =
        let less : new.index.0 < slot.index.0 = beyond (cases_Bool (nat_eq slot.index.0 index.0)) in (
          (
            less,
            AllByRecursion-weaker (λ (s : Slot). slot.index.0 < s.index.0) (λ (s : Slot). new.index.0 < s.index.0)
                (λ s more. omega (arith, less, more)) slots rising.0,
          ),
          rising,
        )
      where
        beyond : (nat_eq slot.index.0 index.0 ≡ true) ⊎ (nat_eq slot.index.0 index.0 ≡ false)
            → new.index.0 < slot.index.0
        beyond (inl same) =
            let is : Some slot.holders ≡ None =
            sym (cond-true (nat_eq slot.index.0 index.0) (Some slot.holders) None same) ∙ other in
            absurd cc
        beyond (inr differs) = above (cases_Bool (nat_lt index.0 slot.index.0))
          where
            above : (nat_lt index.0 slot.index.0 ≡ true) ⊎ (nat_lt index.0 slot.index.0 ≡ false)
                → new.index.0 < slot.index.0
            above (inl less) = let l = ltb-true index.0 slot.index.0 less in omega (arith, own, l)
            above (inr more) =
                let m = ltb-false index.0 slot.index.0 more in
                absurd (eqb-false slot.index.0 index.0 differs (omega (arith, le, m)))

    by : (nat_lt slot.index.0 index.0 ≡ true) ⊎ (nat_lt slot.index.0 index.0 ≡ false)
        → (holders_at index (place_of index slots) slots ≡ None → SlotsRise (insert slots (place_of index slots) new))
        → SlotsRise (insert (slot ∷ slots) (place_of index (slot ∷ slots)) new)
    by (inl less) rest =
        let is : place_of index (slot ∷ slots) ≡ suc (place_of index slots) =
        cond-true (nat_lt slot.index.0 index.0) (suc (place_of index slots)) 0 less in
        let lt : slot.index.0 < new.index.0 =
        let l : slot.index.0 < index.0 = ltb-true slot.index.0 index.0 less in omega (arith, l, own) in
        subst (λ (k : ℕ). SlotsRise (insert (slot ∷ slots) k new)) (sym is) (
          all-insert (λ (other : Slot). slot.index.0 < other.index.0) slots (place_of index slots) new rising.0 lt,
          rest (at (suc (place_of index slots)) is),
        )
    by (inr more) rest =
        let is : place_of index (slot ∷ slots) ≡ 0 =
        cond-false (nat_lt slot.index.0 index.0) (suc (place_of index slots)) 0 more in
        subst (λ (k : ℕ). SlotsRise (insert (slot ∷ slots) k new)) (sym is)
        (here (ltb-false slot.index.0 index.0 more) (at 0 is))
