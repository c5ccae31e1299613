-- The encodings of fields. Numbers have their high byte first.
use Rattle.std.specs.Prelude.{ℕ, Bool, true, false, List, [], ◌∷◌, ◌++◌, length}
use Rattle.std.specs.List.{flat_map}
use Rattle.std.specs.Int.{w8, w16, w32, w64, to_be_bytes}

abbrev pub u8 : ℕ → List ℕ
u8 n = to_be_bytes w8 n

abbrev pub u16 : ℕ → List ℕ
u16 n = to_be_bytes w16 n

abbrev pub u32 : ℕ → List ℕ
u32 n = to_be_bytes w32 n

abbrev pub u64 : ℕ → List ℕ
u64 n = to_be_bytes w64 n

abbrev pub flag : Bool → List ℕ
flag false = 0 ∷ []
flag true = 1 ∷ []

-- a count in four bytes, and so many values
unfoldable pub list : {A : Type 0} → (A → List ℕ) → List A → List ℕ
list write xs = u32 (length xs) ++ flat_map write xs
