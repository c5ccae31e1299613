-- Why recovery gave up.
use Rattle.std.specs.Prelude.{◌≡◌, ℕ}
use Rattle.qq_base.specs.Causes.{Rose}
use Rattle.qq_base.specs.declared.memory.Memory.TheVariants.{Want}
use Rattle.qq_disk.specs.declared.fault.DiskFault.{DiskFault}
use Rattle.qq_disk.specs.declared.fault.DiskFault.TheVariants.{Failed, Memory as OfMemory}
use Rattle.qq_recover.specs.declared.fault.RecoverFault.{RecoverFault}
use Rattle.qq_recover.specs.declared.fault.RecoverFault.TheVariants.{Disk, Memory}

-- the disk's fault, as recovery tells it
abbrev pub fault_of : DiskFault → RecoverFault
fault_of Failed = Disk
fault_of (OfMemory m) = Memory m

-- the disk's count rose, or there was no memory, or it is what the files hold
abbrev pub IsCaused : ℕ → ℕ → RecoverFault → Type 0
IsCaused before now Disk = Rose before now
IsCaused before now (Memory m) = m ≡ Want
IsCaused before now _ = Unit {0}

-- no disk is called: there was no memory, or it is what the bytes hold
abbrev pub IsOfBytes : RecoverFault → Type 0
IsOfBytes Disk = ⊥
IsOfBytes (Memory m) = m ≡ Want
IsOfBytes _ = Unit {0}
