-- What a crash leaves of single files.
use Rattle.std.specs.Prelude.{◌≡◌, ◌≤◌, ℕ, Bool, false, List, ◌++◌, length, take, Option, Some, None, if◌then◌else◌}
use Rattle.qq_disk.specs.declared.name.FileName.{FileName}
use Rattle.qq_disk.specs.Name.{same_name}
use Rattle.qq_disk.specs.Disk.{Disk, FileState, content}
use Rattle.qq_disk.specs.Crash.{Remains}

-- what is left, but for this of one file
abbrev pub with : FileName → Option (List ℕ) → Remains → Remains
with file left i = λ other. if same_name file other then left else i other

abbrev pub is_removed : Option FileState → Bool
is_removed None = false
is_removed (Some f) = f.removed

-- the kept bytes, and then others no longer than the pending ones
pub record BeginsWithKept (f : FileState) (left : Option (List ℕ)) : Type 0 where
  pub tail : List ℕ
  pub is : left ≡ Some (f.kept ++ tail)
  pub fits : length tail ≤ length f.pending

-- all other files are as they were
abbrev pub KeepsOthers : FileName → Disk → Disk → Type 0
KeepsOthers file d e = (other : FileName) → same_name file other ≡ false → e other ≡ d other

-- a first part of the bytes was added to one file
pub record AddsFirstPart (d : Disk) (file : FileName) (bytes : List ℕ) (e : Disk) : Type 0 where
  pub count : ℕ
  pub shows : content e file ≡ content d file ++ take count bytes
  pub others : KeepsOthers file d e
