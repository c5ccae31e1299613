-- What a file may be while records are added to it.
use Rattle.std.specs.Prelude.{◌≡◌, ◌≤◌, ℕ, List, ◌++◌, length, Option, Some}
use Rattle.qq_disk.specs.declared.name.FileName.{FileName}
use Rattle.qq_disk.specs.Disk.{Disk, content, whole}

-- the file is there, and all its bytes are kept
abbrev pub IsKeptWhole : Disk → FileName → Type 0
IsKeptWhole d file = d file ≡ Some (whole (content d file))

-- the file is there with the old bytes, and then others, no more than so many
pub record Extends (old : List ℕ) (most : ℕ) (file : Option (List ℕ)) : Type 0 where
  pub more : List ℕ
  pub is : file ≡ Some (old ++ more)
  pub fits : length more ≤ most
