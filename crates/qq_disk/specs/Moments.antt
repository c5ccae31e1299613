-- The moments of a call: what the disk may hold at each.
use Rattle.std.specs.Prelude.{◌≡◌, ◌⊎◌, ℕ, List, ◌++◌, take}
use Rattle.std.specs.List.{AllByRecursion}
use Rattle.qq_disk.specs.declared.name.FileName.{FileName}
use Rattle.qq_disk.specs.declared.fault.DiskFault.{DiskFault}
use Rattle.qq_disk.specs.declared.fault.DiskFault.TheVariants.{Failed, Memory as OfMemory}
use Rattle.qq_disk.specs.Disk.{Disk, append, sync, remove}

-- each moment since old has P
pub record Adds (P : Disk → Type 0) (old new : List Disk) : Type 0 where
  pub more : List Disk
  pub is : new ≡ more ++ old
  pub each : AllByRecursion P more

-- while bytes are appended, and where that fails: as before, or with a first part of them
abbrev pub IsAppending : Disk → FileName → List ℕ → Disk → Type 0
IsAppending d file bytes e = (e ≡ d) ⊎ ((count : ℕ) × (e ≡ append d file (take count bytes)))

abbrev pub IsSyncing : Disk → FileName → Disk → Type 0
IsSyncing d file e = (e ≡ d) ⊎ (e ≡ sync d file)

abbrev pub IsRemoving : Disk → FileName → Disk → Type 0
IsRemoving d file e = (e ≡ d) ⊎ (e ≡ remove d file)

-- for want of memory the disk does nothing
abbrev pub StaysAtWant : List Disk → List Disk → DiskFault → Type 0
StaysAtWant old new Failed = Unit {0}
StaysAtWant old new (OfMemory m) = new ≡ old
