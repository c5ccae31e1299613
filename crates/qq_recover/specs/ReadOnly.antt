-- A disk of which is only read.
use Rattle.std.specs.Prelude.{◌≡◌, IsTrue}
use Rattle.qq_disk.specs.Facts.{DiskFacts}

-- the disk has no moment more, and tells what it told
pub record OnlyReads {D : Type 0} (facts : DiskFacts D) (old new : D) : Type 0 where
  pub told : facts.tells new ≡ facts.tells old
  pub same : IsTrue (facts.tells old) → facts.past new ≡ facts.past old
