-- The indices that are held, each by so many holders.
use Rattle.std.specs.Prelude.{◌≡◌, ℕ, ◌+◌, ◌-◌, ◌<◌, ◌≤◌, ◌^◌, Bool, List, [], ◌∷◌, Option, Some, None, nat_eq, nat_lt, count_by, length, if◌then◌else◌}
use Rattle.qq_base.specs.declared.ids.Index.{Index}

-- these, each as often as it is held, for how many more slots there is memory, and how many slots there are
pub record LiveState : Type 0 where
  pub indices : List Index
  pub room : ℕ
  pub slots : ℕ

abbrev pub is_index : ℕ → Index → Bool
is_index i index = nat_eq index.0 i

-- how often an index is among these
abbrev pub occurrences : ℕ → List Index → ℕ
occurrences i indices = count_by (is_index i) indices

-- the lesser of an index and one that may be there
abbrev pub lesser : ℕ → Option ℕ → Option ℕ
lesser i None = Some i
lesser i (Some low) = Some (if nat_lt low i then low else i)

-- the least of these
abbrev pub least : List Index → Option ℕ
least [] = None
least (index ∷ rest) = lesser index.0 (least rest)

-- these are so many more
abbrev pub Adds : List Index → List Index → List Index → Type 0
Adds more old new = (i : ℕ) → occurrences i new ≡ occurrences i old + occurrences i more

-- these are so many fewer, as far as they were there
abbrev pub Removes : List Index → List Index → List Index → Type 0
Removes gone old new = (i : ℕ) → occurrences i new ≡ occurrences i old - occurrences i gone

-- there is memory for so many more, and their count fits 64 bits
pub record HasRoomFor (n : ℕ) (live : LiveState) : Type 0 where
  pub places : n ≤ live.room
  pub count : length live.indices + n < 2 ^ 64
