-- Calls in a row, as they change a disk.
use Rattle.std.specs.Prelude.{◌≡◌, ℕ, false, List, [], ◌∷◌}
use Rattle.qq_disk.specs.declared.name.FileName.{FileName}
use Rattle.qq_disk.specs.Disk.{Disk, append, sync, remove}
use Rattle.qq_disk.specs.Name.{same_name}

-- a call that changes the disk; an append that failed counts with the bytes that it added
pub data Call : Type 0 where
  Append : (file : FileName) (bytes : List ℕ) → Call
  Sync : (file : FileName) → Call
  Remove : (file : FileName) → Call

abbrev pub apply : Disk → Call → Disk
apply d (Append file bytes) = append d file bytes
apply d (Sync file) = sync d file
apply d (Remove file) = remove d file

-- the disk after calls, the first of them first
abbrev pub after : Disk → List Call → Disk
after d [] = d
after d (call ∷ calls) = after (apply d call) calls

-- none of the calls removes the file
abbrev pub Spares : FileName → List Call → Type 0
Spares file [] = Unit {0}
Spares file (Remove other ∷ calls) = (same_name other file ≡ false) × Spares file calls
Spares file (_ ∷ calls) = Spares file calls
