-- The records of one file.
use Rattle.std.specs.Prelude.{◌≡◌, ◌+◌, ℕ, zero, suc, List, [], ◌∷◌, ◌++◌, length, drop, Option, Some, None}
use Rattle.std.specs.List.{AllByRecursion}
use Rattle.qq_wal_chain.specs.Format.{Format}

-- the bytes of records, one behind the other
abbrev pub encode_all : (F : Format) → ℕ → List F.Record → List ℕ
encode_all F n [] = []
encode_all F n (r ∷ rs) = F.encode n r ++ encode_all F n rs

abbrev pub next_records : (F : Format) → ℕ → List ℕ → (List ℕ → List F.Record) → Option F.Record → List F.Record
next_records F n bytes rest None = []
next_records F n bytes rest (Some r) = r ∷ rest (drop (length (F.encode n r)) bytes)

-- the whole records that stand one behind the other, at most so many
abbrev pub records_within : (F : Format) → ℕ → ℕ → List ℕ → List F.Record
records_within F n zero bytes = []
records_within F n (suc most) bytes = next_records F n bytes (records_within F n most) (F.read n bytes)

-- the longest list of whole records that stand one behind the other: it ends at the first place where none does,
-- whatever follows
unfoldable pub records : (F : Format) → ℕ → List ℕ → List F.Record
records F n bytes = records_within F n (length bytes) bytes

-- the records of file n: they stand behind its header
abbrev pub file_records : (F : Format) → ℕ → List ℕ → List F.Record
file_records F n bytes = records F n (drop F.header_size bytes)

-- where a file with these records ends
abbrev pub end_of : (F : Format) → ℕ → List F.Record → ℕ
end_of F n rs = F.header_size + length (encode_all F n rs)

abbrev pub step_on : (F : Format) → F.Record → Option F.World → Option F.World
step_on F r None = None
step_on F r (Some world) = F.step r world

-- what records make of a value: None from the first on that doesn't fit
abbrev pub replay : (F : Format) → List F.Record → Option F.World → Option F.World
replay F [] world = world
replay F (r ∷ rs) world = replay F rs (step_on F r world)

-- each of the records leaves a value as it is: it restates what is there
abbrev pub Restate : (F : Format) → F.World → List F.Record → Type 0
Restate F world rs = AllByRecursion (λ r. F.step r world ≡ Some world) rs
