-- The faults of a disk in a folder.
use Rattle.std.specs.Prelude.{◌≡◌, ◌≢◌, ℕ, Bool, true}
use Rattle.std.specs.declared.io.ErrorKind.{ErrorKind}
use Rattle.std.specs.declared.io.ErrorKind.TheVariants.{OutOfMemory}
use Rattle.qq_base.specs.Causes.{raise}
use Rattle.qq_base.specs.declared.memory.Memory.TheVariants.{Want}
use Rattle.qq_disk.specs.declared.fault.DiskFault.{DiskFault}
use Rattle.qq_disk.specs.declared.fault.DiskFault.TheVariants.{Failed, Memory as OfMemory}

-- where a call has failed, the disk is stopped: no sync answers Ok any more
abbrev pub StopsWhereFailed : Bool → DiskFault → Type 0
StopsWhereFailed stopped Failed = stopped ≡ true
StopsWhereFailed stopped (OfMemory m) = Unit {0}

-- what is counted of an answer: a fault, and not that there is no memory
abbrev pub counted : DiskFault → ℕ → ℕ
counted Failed count = raise count
counted (OfMemory m) count = count

-- what a failed call of the system comes to: it may be that there is no memory
abbrev pub IsRefusal : ErrorKind → DiskFault → Type 0
IsRefusal kind Failed = kind ≢ OutOfMemory
IsRefusal kind (OfMemory m) = (kind ≡ OutOfMemory) × (m ≡ Want)
