-- Calls in a row, any of which may have failed.
use Rattle.std.specs.Prelude.{◌≡◌, List, [], ◌∷◌}
use Rattle.qq_disk.specs.declared.name.FileName.{FileName}
use Rattle.qq_disk.specs.Disk.{Disk}
use Rattle.qq_disk.specs.Moments.{IsAppending, IsSyncing, IsRemoving}
use Rattle.qq_disk.specs.Calls.{Call, Append, Sync, Remove, after, Spares}

-- what a disk may hold at each moment of a call, and after it, whether it answered Ok or not
abbrev pub MayHold : Disk → Call → Disk → Type 0
MayHold d (Append file bytes) e = IsAppending d file bytes e
MayHold d (Sync file) e = IsSyncing d file e
MayHold d (Remove file) e = IsRemoving d file e

-- what it may hold after these calls, the first of them first
abbrev pub MayHoldAfter : Disk → List Call → Disk → Type 0
MayHoldAfter d [] e = e ≡ d
MayHoldAfter d (call ∷ calls) e = (mid : Disk) × MayHold d call mid × MayHoldAfter mid calls e

-- the disk is what calls make of it that all answer Ok, and that spare each file which these spare
pub record IsAfterSome (d : Disk) (calls : List Call) (e : Disk) : Type 0 where
  pub done : List Call
  pub is : e ≡ after d done
  pub spares : (file : FileName) → Spares file calls → Spares file done
