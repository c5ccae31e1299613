-- Which errors the calls of the log answer, and why.
use Rattle.std.proofs.Common.{◌≡◌, ◌<◌, ◌≤◌, ◌+◌, ◌-◌, ◌^◌, ◌⊎◌, ℕ, Bool, true, refl, ap, inl, inr}
use Rattle.std.proofs.lemmas.Bool.{leb-false}
use Rattle.qq_base.specs.Causes.{Rose}
use Rattle.qq_base.specs.declared.memory.Memory.TheVariants.{Want, Spent}
use Rattle.qq_log.specs.declared.limits.TheConstants.{RECORD_LIMIT}
use Rattle.qq_log.specs.declared.op.Op.{Op}
use Rattle.qq_log.specs.Writable.{record_length}
use Rattle.qq_wal.specs.declared.fault.WalFault.{WalFault}
use Rattle.qq_wal.specs.declared.fault.WalFault.TheVariants.{Disk, Stopped, TooLarge, Memory}
use Rattle.qq_wal.specs.Fault.{IsAppendCaused, IsCaused, IsGatherCaused, IsRollCaused}

pub gather-cause : (stopped : Bool) (op : Op) (e : WalFault) → IsGatherCaused stopped op e
    → ((e ≡ Stopped) × (stopped ≡ true)) ⊎ (((e ≡ TooLarge) × (4194304 < record_length op)) ⊎ (e ≡ Memory Want))
gather-cause stopped op Disk cause = absurd cause
gather-cause stopped op Stopped cause = inl (refl, cause)
gather-cause stopped op TooLarge cause = inr (inl (refl, leb-false (record_length op) RECORD_LIMIT cause))
gather-cause stopped op (Memory m) cause = inr (inr (ap Memory cause))

pub sync-cause : (stopped : Bool) (before now : ℕ) (e : WalFault) → IsCaused stopped before now e
    → ((e ≡ Disk) × Rose before now) ⊎ (((e ≡ Stopped) × (stopped ≡ true)) ⊎ (e ≡ Memory Want))
sync-cause stopped before now Disk cause = inl (refl, cause)
sync-cause stopped before now Stopped cause = inr (inl (refl, cause))
sync-cause stopped before now TooLarge cause = absurd cause
sync-cause stopped before now (Memory m) cause = inr (inr (ap Memory cause))

pub append-cause : (stopped : Bool) (size before now : ℕ) (e : WalFault) → IsAppendCaused stopped size before now e
    → ((e ≡ Disk) × Rose before now) ⊎ (((e ≡ Stopped) × (stopped ≡ true)) ⊎ ((e ≡ Memory Want)
    ⊎ ((e ≡ Memory (Spent size)) × (2 ^ 64 - 1 < size + 4194304))))
append-cause stopped size before now Disk cause = inl (refl, cause)
append-cause stopped size before now Stopped cause = inr (inl (refl, cause))
append-cause stopped size before now TooLarge cause = absurd cause
append-cause stopped size before now (Memory Want) cause = inr (inr (inl refl))
append-cause stopped size before now (Memory (Spent n)) cause =
    inr (inr (inr (ap (λ (k : ℕ). Memory (Spent k)) cause.0, cause.1)))

pub roll-cause : (stopped : Bool) (greatest before now : ℕ) (e : WalFault)
    → IsRollCaused stopped greatest before now e
    → ((e ≡ Disk) × Rose before now) ⊎ (((e ≡ Stopped) × (stopped ≡ true)) ⊎ ((e ≡ Memory Want)
    ⊎ ((e ≡ Memory (Spent greatest)) × (2 ^ 63 ≤ greatest))))
roll-cause stopped greatest before now Disk cause = inl (refl, cause)
roll-cause stopped greatest before now Stopped cause = inr (inl (refl, cause))
roll-cause stopped greatest before now TooLarge cause = absurd cause
roll-cause stopped greatest before now (Memory Want) cause = inr (inr (inl refl))
roll-cause stopped greatest before now (Memory (Spent n)) cause =
    inr (inr (inr (ap (λ (k : ℕ). Memory (Spent k)) cause.0, cause.1)))
