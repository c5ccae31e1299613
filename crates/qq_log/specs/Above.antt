-- Lists whose items have the indices that follow a base.
use Rattle.std.specs.Prelude.{ℕ, ◌+◌, ◌-◌, List, length, take, drop, Option, None, slice_get, nat_le, if◌then◌else◌}

-- the last item's index, the base where there is none
abbrev pub last_above : {A : Type 0} → ℕ → List A → ℕ
last_above base items = base + length items

-- the item with this index
abbrev pub item_above : {A : Type 0} → ℕ → List A → ℕ → Option A
item_above base items index = if nat_le index base then None else slice_get items (index - base - 1)

-- the items up to an index
abbrev pub take_above : {A : Type 0} → ℕ → ℕ → List A → List A
take_above base index items = take (index - base) items

-- the items behind an index
abbrev pub drop_above : {A : Type 0} → ℕ → ℕ → List A → List A
drop_above base index items = drop (index - base) items
