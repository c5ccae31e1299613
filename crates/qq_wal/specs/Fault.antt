-- Why a call of the log gave up.
use Rattle.std.specs.Prelude.{◌≡◌, ◌<◌, ◌≤◌, ◌+◌, ◌-◌, ◌^◌, ◌⊎◌, ℕ, Bool, true, false, Result, Err}
use Rattle.qq_base.specs.Causes.{Rose, SpentOnlyWhere}
use Rattle.qq_base.specs.declared.memory.Memory.TheVariants.{Want}
use Rattle.qq_base.specs.declared.memory.TheConstants.{NUMBER_END}
use Rattle.qq_disk.specs.Disk.{IsListed}
use Rattle.qq_disk.specs.Disk as disk
use Rattle.qq_disk.specs.Fault as disk_fault
use Rattle.qq_disk.specs.Image.{log_of}
use Rattle.qq_disk.specs.declared.fault.DiskFault.{DiskFault}
use Rattle.qq_disk.specs.declared.fault.DiskFault.TheVariants.{Failed, Memory as OfMemory}
use Rattle.qq_log.specs.declared.op.Op.{Op}
use Rattle.qq_wal.specs.Batch.{is_short}
use Rattle.qq_wal.specs.declared.batch.TheConstants.{BATCH_BYTES}
use Rattle.qq_wal.specs.declared.fault.WalFault.{WalFault}
use Rattle.qq_wal.specs.declared.fault.WalFault.TheVariants.{Disk, Stopped, TooLarge, Memory}

-- the disk's fault, as the log tells it
abbrev pub fault_of : DiskFault → WalFault
fault_of Failed = Disk
fault_of (OfMemory m) = Memory m

-- whether the disk failed, and didn't only lack memory
abbrev pub is_failure : DiskFault → Bool
is_failure Failed = true
is_failure (OfMemory m) = false

-- a log is stopped behind a call where it was before, and where the disk failed in it
abbrev pub stops_at : {T : Type 0} → Bool → Result T WalFault → Bool
stops_at before (Err Disk) = true
stops_at before _ = before

-- the disk failed, or it had no memory to sync a file that was begun
abbrev pub IsHalfBegun : ℕ → DiskFault → disk.Disk → Type 0
IsHalfBegun n Failed d = Unit {0}
IsHalfBegun n (OfMemory m) d = IsListed d (log_of n)

-- so the log may be stopped where a new file was begun
abbrev pub StopsAtRoll : {T : Type 0} → ℕ → Bool → Result T WalFault → Bool → disk.Disk → Type 0
StopsAtRoll n before result stopped d =
    (stopped ≡ stops_at before result) ⊎ ((result ≡ Err (Memory Want)) × (stopped ≡ true) × IsListed d (log_of n))

-- the disk's fault has its cause
abbrev pub IsBeginCaused : ℕ → ℕ → DiskFault × Bool → Type 0
IsBeginCaused before now e = disk_fault.IsCaused before now e.0

-- the disk's count rose, or the log was stopped before, or there was no memory
abbrev pub IsCaused : Bool → ℕ → ℕ → WalFault → Type 0
IsCaused stopped before now Disk = Rose before now
IsCaused stopped before now Stopped = stopped ≡ true
IsCaused stopped before now TooLarge = ⊥
IsCaused stopped before now (Memory m) = m ≡ Want

-- and at an append the file may be as long as its length can tell
abbrev pub IsAppendCaused : Bool → ℕ → ℕ → ℕ → WalFault → Type 0
IsAppendCaused stopped size before now (Memory m) = SpentOnlyWhere m size (2 ^ 64 - 1 < size + BATCH_BYTES)
IsAppendCaused stopped size before now fault = IsCaused stopped before now fault

-- and for a new file the greatest number of a log file may be at its end
abbrev pub IsRollCaused : Bool → ℕ → ℕ → ℕ → WalFault → Type 0
IsRollCaused stopped greatest before now (Memory m) = SpentOnlyWhere m greatest (NUMBER_END ≤ greatest)
IsRollCaused stopped greatest before now fault = IsCaused stopped before now fault

-- the log was stopped before, or the op's record would be too long, or there was no memory
abbrev pub IsGatherCaused : Bool → Op → WalFault → Type 0
IsGatherCaused stopped op Disk = ⊥
IsGatherCaused stopped op Stopped = stopped ≡ true
IsGatherCaused stopped op TooLarge = is_short op ≡ false
IsGatherCaused stopped op (Memory m) = m ≡ Want
