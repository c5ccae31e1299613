-- What contracts say of a disk.
use Rattle.std.specs.Prelude.{ℕ, Bool, List}
use Rattle.qq_disk.specs.Disk.{Disk}

-- what a disk shows to contracts
pub record DiskFacts (D : Type 0) : Type 0 where
  -- whether it tells its contents
  pub tells : D → Bool
  -- what it held at each moment so far, the newest first
  pub past : D → List Disk
  -- how often it has failed
  pub faults : D → ℕ
