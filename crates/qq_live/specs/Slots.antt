-- Slots in memory: the indices that are held, and some that aren't any more.
use Rattle.std.specs.Prelude.{◌≡◌, ℕ, suc, ◌+◌, ◌*◌, ◌<◌, ◌≤◌, Bool, not, false, List, [], ◌∷◌, ◌++◌, Option, Some, None, length, nat_eq, nat_lt, count_by, slice_get, replicate, if◌then◌else◌}
use Rattle.std.specs.List.{AllByRecursion}
use Rattle.std.specs.Option.{option_map_or}
use Rattle.qq_base.specs.declared.ids.Index.{Index}
use Rattle.qq_live.specs.Indices.{Adds, Removes}
use Rattle.qq_live.specs.declared.slot.Slot.{Slot}

abbrev pub is_held : Slot → Bool
is_held slot = nat_lt 0 slot.holders

abbrev pub is_free : Slot → Bool
is_free slot = not (is_held slot)

-- the indices, each as often as it is held
abbrev pub held_of : List Slot → List Index
held_of [] = []
held_of (slot ∷ rest) = replicate slot.holders slot.index ++ held_of rest

abbrev pub SlotsRise : List Slot → Type 0
SlotsRise [] = Unit {0}
SlotsRise (slot ∷ rest) = AllByRecursion (λ (other : Slot). slot.index.0 < other.index.0) rest × SlotsRise rest

-- whether the first is free
abbrev pub is_front_free : List Slot → Bool
is_front_free [] = false
is_front_free (slot ∷ rest) = is_free slot

-- how many slots are held
abbrev pub held_count : List Slot → ℕ
held_count slots = count_by is_held slots

-- slots that rise, the first of which is held
pub record AreFronted (slots : List Slot) : Type 0 where
  pub rising : SlotsRise slots
  pub front : is_front_free slots ≡ false

-- so many slots are held, by so many holders in all, and at most half are free
pub record AreSlots (count total : ℕ) (slots : List Slot) : Type 0 where
  pub fronted : AreFronted slots
  pub long : held_count slots ≡ count
  pub sum : length (held_of slots) ≡ total
  pub half : length slots ≤ 2 * count

-- some that were free are left out
pub record Trims (old new : List Slot) : Type 0 where
  pub held : held_of new ≡ held_of old
  pub count : held_count new ≡ held_count old
  pub rising : SlotsRise old → SlotsRise new

-- the first place at which an index isn't below this one
abbrev pub place_of : Index → List Slot → ℕ
place_of index [] = 0
place_of index (slot ∷ rest) = if nat_lt slot.index.0 index.0 then suc (place_of index rest) else 0

abbrev pub holders_by : Index → Slot → Option ℕ
holders_by index slot = if nat_eq slot.index.0 index.0 then Some slot.holders else None

-- how many hold the slot at a place, None where it isn't of this index
abbrev pub holders_at : Index → ℕ → List Slot → Option ℕ
holders_at index place slots = option_map_or (holders_by index) (slice_get slots place) None

-- an index has a holder more; whether its slot was free
pub record Gains (index : Index) (old new : List Slot) (fresh : Bool) : Type 0 where
  pub fronted : AreFronted new
  pub held : Adds (index ∷ []) (held_of old) (held_of new)
  pub total : length (held_of new) ≡ length (held_of old) + 1
  pub count : held_count new ≡ held_count old + (if fresh then 1 else 0)
  pub longer : length new ≤ length old + (if fresh then 1 else 0)

-- an index has a holder less; whether its slot is free now
pub record Loses (index : Index) (old new : List Slot) (last : Bool) : Type 0 where
  pub rising : SlotsRise new
  pub held : Removes (index ∷ []) (held_of old) (held_of new)
  pub total : length (held_of new) + 1 ≡ length (held_of old)
  pub count : held_count new + (if last then 1 else 0) ≡ held_count old
  pub front : last ≡ false → is_front_free new ≡ false
  pub long : length new ≡ length old
