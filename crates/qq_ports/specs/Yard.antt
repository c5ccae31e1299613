-- What a yard gives.
use Rattle.std.specs.Prelude.{◌≡◌, ℕ, List, [], ◌∷◌, None}
use Rattle.qq_base.specs.Causes.{Rose}
use Rattle.qq_base.specs.declared.memory.Memory.TheVariants.{Want}
use Rattle.qq_disk.specs.declared.image.Image.{Image}
use Rattle.qq_disk.specs.Crash.{Remains, reopen}
use Rattle.qq_disk.specs.Disk.{Disk, now}
use Rattle.qq_mem_disk.specs.declared.mem_disk.MemDisk.{MemDisk}
use Rattle.qq_mem_disk.specs.MemDisk.{past_of, counter_of}
use Rattle.qq_mem_disk.specs.Counter.{IsFresh}
use Rattle.qq_mem_disk.specs.Crashed.{IsCrash}
use Rattle.qq_ports.specs.declared.yard_fault.YardFault.{YardFault}
use Rattle.qq_ports.specs.declared.yard_fault.YardFault.TheVariants.{Failed, Memory as OfMemory}

-- it failed only where the count of faults rose, and else there was no memory
abbrev pub IsYardCaused : ℕ → ℕ → YardFault → Type 0
IsYardCaused before after Failed = Rose before after
IsYardCaused before after (OfMemory m) = m ≡ Want

-- nothing was ever on the disk
abbrev pub IsNew : List Disk → Type 0
IsNew past = past ≡ (λ _. None) ∷ []

-- the disk was just opened: a sync has kept all that it holds, no file is removed, and no moment came before
pub record IsOpened (past : List Disk) : Type 0 where
  pub held : Remains
  pub is : past ≡ reopen held ∷ []

-- nothing was ever on the disk, and no call of it is to fail
pub record IsFreshDisk (disk : MemDisk) : Type 0 where
  pub past : IsNew (past_of disk)
  pub counter : IsFresh (counter_of disk)

-- the disk is the named image of what it was, opened again, and no moment came before
pub record IsAfterCrash (image : Image) (old new : List Disk) : Type 0 where
  pub left : IsCrash image (now old) (now new)
  pub alone : new ≡ now new ∷ []
