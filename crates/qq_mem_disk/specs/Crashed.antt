-- A disk after a crash into a named image.
use Rattle.std.specs.Prelude.{◌≡◌, List, ℕ, Option, Some, None}
use Rattle.qq_disk.specs.declared.name.FileName.{FileName}
use Rattle.qq_disk.specs.declared.image.Image.{Image}
use Rattle.qq_disk.specs.Disk.{Disk, set, whole}
use Rattle.qq_disk.specs.Crash.{reopen}
use Rattle.qq_disk.specs.Image.{IsNewestLog, image_of}

-- the disk with what is left of one file more
abbrev pub put_remainder : Disk → FileName → Option (List ℕ) → Disk
put_remainder d file None = d
put_remainder d file (Some bytes) = set d file (Some (whole bytes))

-- the new disk is the named image of the old one, opened again: all that is left is kept
pub record IsCrash (image : Image) (old new : Disk) : Type 0 where
  pub newest : Option FileName
  pub is_newest : IsNewestLog old image.removed_back newest
  pub left : new ≡ reopen (image_of image newest old)
