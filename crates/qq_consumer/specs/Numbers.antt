-- Lists that rise by the numbers of their items.
use Rattle.std.specs.Prelude.{◌≡◌, ℕ, suc, ◌<◌, List, [], ◌∷◌, Option, Bool, nat_eq, nat_lt, find, slice_get, false, if◌then◌else◌}
use Rattle.std.specs.List.{AllByRecursion}
use Rattle.std.specs.Option.{option_map, option_map_or}
use Rattle.qq_consumer.specs.declared.rising.Numbered.{Numbered}

-- a rising list, and what it was at the last commit
pub record RisingList (T : Type 0) : Type 0 where
  pub items : List (Numbered T)
  pub base : List (Numbered T)

-- each number is below those behind it
abbrev pub Rises : {T : Type 0} → List (Numbered T) → Type 0
Rises [] = Unit {0}
Rises {T = T} (one ∷ rest) = AllByRecursion (λ (other : Numbered T). one.number < other.number) rest × Rises rest

-- the items rise, and those at the last commit
pub record AreRising {T : Type 0} (items base : List (Numbered T)) : Type 0 where
  pub now : Rises items
  pub before : Rises base

-- all numbers are below this one
abbrev pub AreBelow : {T : Type 0} → ℕ → List (Numbered T) → Type 0
AreBelow {T = T} number items = AllByRecursion (λ (one : Numbered T). one.number < number) items

abbrev pub has_number : {T : Type 0} → ℕ → Numbered T → Bool
has_number number one = nat_eq one.number number

abbrev pub item_of : {T : Type 0} → Numbered T → T
item_of one = one.item

-- the item of a number
abbrev pub item_by : {T : Type 0} → ℕ → List (Numbered T) → Option T
item_by {T = T} number items = option_map (item_of {T = T}) (find (has_number {T = T} number) items)

-- the others
abbrev pub without : {T : Type 0} → ℕ → List (Numbered T) → List (Numbered T)
without number [] = []
without number (one ∷ rest) = if has_number number one then rest else one ∷ without number rest

-- no item has this number
abbrev pub IsFree : {T : Type 0} → ℕ → List (Numbered T) → Type 0
IsFree {T = T} number items = AllByRecursion (λ (one : Numbered T). one.number ≡ number → ⊥) items

-- and one item more, at the place of its number
abbrev pub with_item : {T : Type 0} → Numbered T → List (Numbered T) → List (Numbered T)
with_item one [] = one ∷ []
with_item one (other ∷ rest) = if nat_lt other.number one.number then other ∷ with_item one rest else one ∷ other ∷ rest

-- all but the first
abbrev pub without_first : {T : Type 0} → List (Numbered T) → List (Numbered T)
without_first [] = []
without_first (one ∷ rest) = rest

-- the first place at which a number isn't below this one
abbrev pub place_of : {T : Type 0} → ℕ → List (Numbered T) → ℕ
place_of number [] = 0
place_of number (one ∷ rest) = if nat_lt one.number number then suc (place_of number rest) else 0

-- whether a number stands at a place
abbrev pub is_at : {T : Type 0} → ℕ → ℕ → List (Numbered T) → Bool
is_at {T = T} number place items = option_map_or (has_number {T = T} number) (slice_get items place) false
