-- A walk over the places that are active serves all of them.
use Rattle.std.proofs.Common.{◌≡◌, ◌<◌, ◌≤◌, ◌+◌, ℕ, zero, suc, false, List, [], ◌∷◌, length, get_or, drop, refl, sym, ap, ◌∙◌, subst, inl, inr, arith}
use Rattle.std.specs.Prelude.{nat_eq}
use Rattle.std.specs.List.{AllByRecursion, range_with_len}
use Rattle.std.proofs.lemmas.Bool.{cases_lt, ne_eqb, or_from}
use Rattle.std.proofs.lemmas.List.FromFn.{get_or-range_with_len, length-range_with_len}
use Rattle.qq_raft_protocol.specs.Facts.{In}
use Rattle.qq_cluster_model.specs.Cluster.{Cluster, ClusterEvent}
use Rattle.qq_cluster_model.specs.Rules.{ForEach}
use Rattle.qq_cluster.specs.Active.{AreRising, is_in}

-- ---- numbers from 1 on

pub drop-at : {A : Type 0} (xs : List A) (k : ℕ) (d : A) → k < length xs → drop k xs ≡ get_or xs k d ∷ drop (k + 1) xs
drop-at [] k d lt = absurd (omega (arith, lt))
drop-at (x ∷ xs) zero d lt = refl
drop-at {A = A} (x ∷ xs) (suc k) d lt =
    let next : suc (k + 1) ≡ suc k + 1 = omega arith in
    drop-at xs k d (omega (arith, lt)) ∙ ap (λ (m : ℕ). get_or xs k d ∷ drop m (x ∷ xs)) next

pub drop-past : {A : Type 0} (xs : List A) (k : ℕ) → length xs ≤ k → drop k xs ≡ []
drop-past [] zero le = refl
drop-past [] (suc k) le = refl
drop-past (x ∷ xs) zero le = absurd (omega (arith, le))
drop-past (x ∷ xs) (suc k) le = drop-past xs k (omega (arith, le))

-- the place of an index
pub place-at : (places : List ℕ) (n at : ℕ) → places ≡ range_with_len 1 n → at < n
    → drop at places ≡ (at + 1) ∷ drop (at + 1) places
place-at places n at are lt =
    let long = length-range_with_len 1 n in
    ap (drop at) are ∙ drop-at (range_with_len 1 n) at 0 (omega (arith, long, lt))
    ∙ ap (λ (p : ℕ). p ∷ drop (at + 1) (range_with_len 1 n))
    (get_or-range_with_len 1 n at 0 lt ∙ (let e : 1 + at ≡ at + 1 = omega arith in e))
    ∙ ap (λ (l : List ℕ). (at + 1) ∷ drop (at + 1) l) (sym are)

in-range_from : (a n k : ℕ) → a ≤ k → k < a + n → In k (range_with_len a n)
in-range_from a zero k low high = absurd (omega (arith, low, high))
in-range_from a (suc n) k low high =
    elim (cases_lt a k) [
      | inl more ↦ inr (in-range_from (a + 1) n k (omega (arith, more)) (omega (arith, high)))
      | inr most ↦ inl (let e : k ≡ a = omega (arith, low, most) in e)
    ]

pub in-range : (n at : ℕ) → at < n → In (at + 1) (range_with_len 1 n)
in-range n at lt = in-range_from 1 n (at + 1) (omega arith) (omega (arith, lt))

from-range_from : (a n k : ℕ) → In k (range_with_len a n) → (a ≤ k) × (k < a + n)
from-range_from a zero k here = absurd here
from-range_from a (suc n) k (inl same) = (omega (arith, same), omega (arith, same))
from-range_from a (suc n) k (inr later) =
    let rest = from-range_from (a + 1) n k later in
    (omega (arith, rest.0), omega (arith, rest.1))

pub from-range : (n k : ℕ) → In k (range_with_len 1 n) → (1 ≤ k) × (k < 1 + n)
from-range n k here = from-range_from 1 n k here

-- ---- places between

-- before the first of some numbers that rise there is none of them
pub none-before : (numbers : List ℕ) (n at : ℕ) → AreRising numbers → at < get_or numbers 0 n
    → is_in at numbers ≡ false
none-before [] n at rising lt = refl
none-before (number ∷ numbers) n at rising lt =
    or_from (nat_eq at number) (is_in at numbers) (ne_eqb at number (λ e. absurd (omega (arith, lt, e))))
    (none-above numbers number at rising.0 (omega (arith, lt)))
  where
    none-above : (xs : List ℕ) (x k : ℕ) → AllByRecursion (λ (later : ℕ). x < later) xs → k < x → is_in k xs ≡ false
    none-above [] x k above less = refl
    none-above (y ∷ xs) x k above less =
        let lt = above.0 in
        or_from (nat_eq k y) (is_in k xs) (ne_eqb k y (λ e. absurd (omega (arith, lt, less, e))))
        (none-above xs x k above.1 less)

pub all-get : (P : ℕ → Type 0) (xs : List ℕ) (i d : ℕ) → AllByRecursion P xs → i < length xs → P (get_or xs i d)
all-get P [] i d each lt = absurd (omega (arith, lt))
all-get P (x ∷ xs) zero d each lt = each.0
all-get P (x ∷ xs) (suc i) d each lt = all-get P xs i d each.1 (omega (arith, lt))

-- and none between one of them and the next
none-between_by : (numbers : List ℕ) (n i d at : ℕ) → AreRising numbers → i < length numbers → get_or numbers i d < at
    → at < get_or numbers (suc i) n → is_in at numbers ≡ false
none-between_by [] n i d at rising within low high = absurd (omega (arith, within))
none-between_by (number ∷ numbers) n zero d at rising within low high =
    or_from (nat_eq at number) (is_in at numbers) (ne_eqb at number (λ e. absurd (omega (arith, low, e))))
    (none-before numbers n at rising.1 high)
none-between_by (number ∷ numbers) n (suc i) d at rising within low high =
    let lt = all-get (λ (later : ℕ). number < later) numbers i d rising.0 (omega (arith, within)) in
    or_from (nat_eq at number) (is_in at numbers) (ne_eqb at number (λ e. absurd (omega (arith, low, lt, e))))
    (none-between_by numbers n i d at rising.1 (omega (arith, within)) low high)

pub none-between : (numbers : List ℕ) (n i d at : ℕ) → AreRising numbers → i < length numbers → get_or numbers i d < at
    → at < get_or numbers (i + 1) n → is_in at numbers ≡ false
none-between numbers n i d at rising within low high =
    none-between_by numbers n i d at rising within low
    (subst (λ (j : ℕ). at < get_or numbers j n) (let e : i + 1 ≡ suc i = omega arith in e) high)

-- the next one is above it
next-above_by : (numbers : List ℕ) (n i : ℕ) → AreRising numbers → AllByRecursion (λ (number : ℕ). number < n) numbers
    → i < length numbers → get_or numbers i n < get_or numbers (suc i) n
next-above_by [] n i rising within lt = absurd (omega (arith, lt))
next-above_by (number ∷ []) n zero rising within lt = within.0
next-above_by (number ∷ next ∷ numbers) n zero rising within lt = rising.0.0
next-above_by (number ∷ numbers) n (suc i) rising within lt =
    next-above_by numbers n i rising.1 within.1 (omega (arith, lt))

pub next-above : (numbers : List ℕ) (n i at : ℕ) → AreRising numbers → AllByRecursion (λ (number : ℕ). number < n) numbers
    → i < length numbers → at ≡ get_or numbers i n → at + 1 ≤ get_or numbers (i + 1) n
next-above numbers n i at rising within lt is =
    let above = next-above_by numbers n i rising within lt in
    let same : get_or numbers (i + 1) n ≡ get_or numbers (suc i) n =
    ap (λ (j : ℕ). get_or numbers j n) (let e : i + 1 ≡ suc i = omega arith in e) in
    omega (arith, above, same, is)

-- the next number is at most the end, where all are within it
pub next-most : (numbers : List ℕ) (n i : ℕ) → AllByRecursion (λ (number : ℕ). number < n) numbers
    → get_or numbers i n ≤ n
next-most [] n i within = omega arith
next-most (number ∷ numbers) n zero within = let lt = within.0 in omega (arith, lt)
next-most (number ∷ numbers) n (suc i) within = next-most numbers n i within.1

past-all : (numbers : List ℕ) (n i : ℕ) → length numbers ≤ i → get_or numbers i n ≡ n
past-all [] n i le = refl
past-all (number ∷ numbers) n zero le = absurd (omega (arith, le))
past-all (number ∷ numbers) n (suc i) le = past-all numbers n i (omega (arith, le))

pub next-end : (numbers : List ℕ) (n i : ℕ) → length numbers ≤ i → get_or numbers i n ≡ n
next-end numbers n i le = past-all numbers n i le

-- ---- what is passed over

-- where nothing has to happen at the places between, what the later ones ask for is what these do
pub skip : (Each : ℕ → Cluster → List ClusterEvent → Type 0) (places : List ℕ) (n : ℕ) (c : Cluster)
    (late : List ClusterEvent) → places ≡ range_with_len 1 n → (gap from to : ℕ) → to ≡ from + gap → to ≤ n
    → ((at : ℕ) → from ≤ at → at < to → Each (at + 1) c []) → ForEach (drop to places) Each c late
    → ForEach (drop from places) Each c late
skip Each places n c late are zero from to is le quiet allowed =
    subst (λ (k : ℕ). ForEach (drop k places) Each c late) (let e : to ≡ from = omega (arith, is) in e) allowed
skip Each places n c late are (suc gap) from to is le quiet allowed =
    subst (λ (l : List ℕ). ForEach l Each c late)
    (sym (place-at places n from are (omega (arith, is, le))))
    (record {
      early = [];
      late = late;
      is = refl;
      first = quiet from (omega arith) (omega (arith, is));
      second = skip Each places n c late are gap (from + 1) to (omega (arith, is)) le
          (λ at low high. quiet at (omega (arith, low)) high) allowed;
    })

-- nothing is left
pub none-left : (places : List ℕ) (n : ℕ) → places ≡ range_with_len 1 n → drop n places ≡ []
none-left places n are =
    let long = length-range_with_len 1 n in
    drop-past places n (let e = ap length are in omega (arith, e, long))
