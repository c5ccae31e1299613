-- Numbers in rising order: the indexes of the queues that may have something to do.
use Rattle.std.specs.Prelude.{ℕ, suc, ◌<◌, Bool, false, List, [], ◌∷◌, nat_eq, nat_lt, slice_get, if◌then◌else◌}
use Rattle.std.specs.List.{AllByRecursion, list_any}
use Rattle.std.specs.Option.{option_map_or}

-- each number is below those after it
abbrev pub AreRising : List ℕ → Type 0
AreRising [] = Unit {0}
AreRising (number ∷ numbers) = AllByRecursion (λ (later : ℕ). number < later) numbers × AreRising numbers

abbrev pub is_in : ℕ → List ℕ → Bool
is_in number numbers = list_any (nat_eq number) numbers

-- a number in its place, once
abbrev pub put_in : ℕ → List ℕ → List ℕ
put_in number [] = number ∷ []
put_in number (other ∷ numbers) =
    if nat_lt other number then other ∷ put_in number numbers else
    if nat_eq other number then other ∷ numbers else number ∷ other ∷ numbers

-- how many of the first numbers are below one
abbrev pub place_of : ℕ → List ℕ → ℕ
place_of number [] = 0
place_of number (other ∷ numbers) = if nat_lt other number then suc (place_of number numbers) else 0

-- it is the number at a place
abbrev pub is_at : ℕ → ℕ → List ℕ → Bool
is_at number place numbers = option_map_or (λ (other : ℕ). nat_eq other number) (slice_get numbers place) false
