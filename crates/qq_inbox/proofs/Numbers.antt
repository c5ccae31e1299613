-- Lists of numbers that only rise, place by place.
use Rattle.std.proofs.Common.{◌≡◌, ◌≤◌, ℕ, zero, suc, List, [], ◌∷◌, length, set, replicate, refl, ap, le_trans, le_refl, zero-le, arith}
use Rattle.std.specs.Prelude.{slice_index}
use Rattle.qq_inbox.specs.Seats.{AtMost, greater}

pub at_most_same : (xs : List ℕ) → AtMost xs xs
at_most_same [] = tt
at_most_same (x ∷ xs) = (le_refl x, at_most_same xs)

-- a number rises in the lower list, but not above the upper one's
pub at_most_set : (xs ys : List ℕ) (k n : ℕ) → AtMost xs ys → n ≤ slice_index ys k → AtMost (set xs k n) ys
at_most_set [] ys k n below le = tt
at_most_set (x ∷ xs) [] k n below le = absurd below
at_most_set (x ∷ xs) (y ∷ ys) zero n below le = (le, below.1)
at_most_set (x ∷ xs) (y ∷ ys) (suc k) n below le = (below.0, at_most_set xs ys k n below.1 le)

-- a number rises in the upper list
pub at_most_raised : (xs ys : List ℕ) (k n : ℕ) → AtMost xs ys → slice_index ys k ≤ n → AtMost xs (set ys k n)
at_most_raised [] ys k n below le = tt
at_most_raised (x ∷ xs) [] k n below le = absurd below
at_most_raised (x ∷ xs) (y ∷ ys) zero n below le = (le_trans below.0 le, below.1)
at_most_raised (x ∷ xs) (y ∷ ys) (suc k) n below le = (below.0, at_most_raised xs ys k n below.1 le)

-- both become one number
pub at_most_both : (xs ys : List ℕ) (k n : ℕ) → AtMost xs ys → AtMost (set xs k n) (set ys k n)
at_most_both [] ys k n below = tt
at_most_both (x ∷ xs) [] k n below = absurd below
at_most_both (x ∷ xs) (y ∷ ys) zero n below = (le_refl n, below.1)
at_most_both (x ∷ xs) (y ∷ ys) (suc k) n below = (below.0, at_most_both xs ys k n below.1)

pub at_most_at : (xs ys : List ℕ) (k : ℕ) → AtMost xs ys → slice_index xs k ≤ slice_index ys k
at_most_at [] ys k below = zero-le
at_most_at (x ∷ xs) [] k below = absurd below
at_most_at (x ∷ xs) (y ∷ ys) zero below = below.0
at_most_at (x ∷ xs) (y ∷ ys) (suc k) below = at_most_at xs ys k below.1

pub at_most_greater : (xs ys zs : List ℕ) → AtMost xs zs → AtMost ys zs → AtMost (greater xs ys) zs
at_most_greater [] ys zs first second = second
at_most_greater (x ∷ xs) [] zs first second = first
at_most_greater (x ∷ xs) (y ∷ ys) [] first second = absurd first
at_most_greater (x ∷ xs) (y ∷ ys) (z ∷ zs) first second =
    let a = first.0 in let b = second.0 in (omega arith, at_most_greater xs ys zs first.1 second.1)

-- what both are at most, the first is
pub greater_first : (xs ys zs : List ℕ) → AtMost (greater xs ys) zs → AtMost xs zs
greater_first [] ys zs below = tt
greater_first (x ∷ xs) [] zs below = below
greater_first (x ∷ xs) (y ∷ ys) [] below = absurd below
greater_first (x ∷ xs) (y ∷ ys) (z ∷ zs) below = let a = below.0 in (omega arith, greater_first xs ys zs below.1)

-- and the second
pub greater_second : (xs ys zs : List ℕ) → AtMost (greater xs ys) zs → AtMost ys zs
greater_second [] ys zs below = below
greater_second (x ∷ xs) [] zs below = tt
greater_second (x ∷ xs) (y ∷ ys) [] below = absurd below
greater_second (x ∷ xs) (y ∷ ys) (z ∷ zs) below = let a = below.0 in (omega arith, greater_second xs ys zs below.1)

pub length-greater : (xs ys : List ℕ) → length xs ≡ length ys → length (greater xs ys) ≡ length xs
length-greater [] [] same = refl
length-greater [] (y ∷ ys) same = absurd (omega arith)
length-greater (x ∷ xs) [] same = refl
length-greater (x ∷ xs) (y ∷ ys) same = ap suc (length-greater xs ys (omega arith))

-- a number that is set to itself
pub set_same : (xs : List ℕ) (k : ℕ) → set xs k (slice_index xs k) ≡ xs
set_same [] k = refl
set_same (x ∷ xs) zero = refl
set_same (x ∷ xs) (suc k) = ap (λ (ys : List ℕ). x ∷ ys) (set_same xs k)

-- where every number is 0
pub zeros_at : (n k : ℕ) → slice_index (replicate n 0) k ≡ 0
zeros_at zero k = refl
zeros_at (suc n) zero = refl
zeros_at (suc n) (suc k) = zeros_at n k

-- a number that is set, at any place
pub set_within : (xs : List ℕ) (k j n top : ℕ) → slice_index xs j ≤ top → (k ≡ j → n ≤ top)
    → slice_index (set xs k n) j ≤ top
set_within [] k j n top within new = within
set_within (x ∷ xs) zero zero n top within new = new refl
set_within (x ∷ xs) zero (suc j) n top within new = within
set_within (x ∷ xs) (suc k) zero n top within new = within
set_within (x ∷ xs) (suc k) (suc j) n top within new = set_within xs k j n top within (λ e. new (ap suc e))
