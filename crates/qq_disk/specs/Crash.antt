-- What a crash may leave of a disk.
use Rattle.std.specs.Prelude.{◌≡◌, ◌⊎◌, ◌≤◌, ℕ, true, false, List, ◌++◌, length, Option, Some, None, option_map}
use Rattle.qq_disk.specs.declared.name.FileName.{FileName}
use Rattle.qq_disk.specs.Disk.{Disk, FileState, whole}
use Rattle.qq_disk.specs.Moments.{Adds}

-- what is left of each file, None where the file is absent
abbrev pub Remains : Type 0
Remains = FileName → Option (List ℕ)

-- the kept bytes, and then any bytes no longer than the pending ones
pub record IsTorn (f : FileState) (bytes : List ℕ) : Type 0 where
  pub tail : List ℕ
  pub is : bytes ≡ f.kept ++ tail
  pub fits : length tail ≤ length f.pending

-- what may be left of a file: one that was never synced, or was removed, may be absent
abbrev pub MayLeave : Option FileState → Option (List ℕ) → Type 0
MayLeave None None = Unit {0}
MayLeave None (Some bytes) = ⊥
MayLeave (Some f) None = (f.synced ≡ false) ⊎ (f.removed ≡ true)
MayLeave (Some f) (Some bytes) = IsTorn f bytes

-- a crash at this moment may leave this
abbrev pub IsImage : Disk → Remains → Type 0
IsImage d i = (file : FileName) → MayLeave (d file) (i file)

-- whatever a crash leaves has P
abbrev pub Leaves : (Remains → Type 0) → Disk → Type 0
Leaves P d = (i : Remains) → IsImage d i → P i

-- whatever a crash at any moment since old leaves has P
abbrev pub LeavesOnly : (Remains → Type 0) → List Disk → List Disk → Type 0
LeavesOnly P old new = Adds (Leaves P) old new

-- the disk after a crash: all that is left is kept
abbrev pub reopen : Remains → Disk
reopen i = λ file. option_map whole (i file)
