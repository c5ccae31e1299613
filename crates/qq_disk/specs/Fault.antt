-- Why a call of a disk gave up.
use Rattle.std.specs.Prelude.{◌≡◌, ℕ, List, codes}
use Rattle.qq_base.specs.Causes.{Rose}
use Rattle.qq_base.specs.declared.memory.Memory.TheVariants.{Want}
use Rattle.qq_disk.specs.declared.fault.DiskFault.{DiskFault}
use Rattle.qq_disk.specs.declared.fault.DiskFault.TheVariants.{Failed, Memory as OfMemory}

-- it failed only where the count of faults rose, and else there was no memory
abbrev pub IsCaused : ℕ → ℕ → DiskFault → Type 0
IsCaused before now Failed = Rose before now
IsCaused before now (OfMemory m) = m ≡ Want

-- what a fault is printed as
abbrev pub fault_text : DiskFault → List ℕ
fault_text Failed = codes "disk"
fault_text (OfMemory m) = codes "memory"
