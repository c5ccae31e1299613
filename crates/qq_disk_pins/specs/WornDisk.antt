-- A disk in memory whose calls fail halfway.
use Rattle.std.specs.Prelude.{◌/◌, ℕ, Bool, List, length, take, Result, Ok, Err, nat_eq}
use Rattle.std.specs.List.{list_any}
use Rattle.qq_disk.specs.declared.fault.DiskFault.{DiskFault}
use Rattle.qq_disk.specs.declared.fault.DiskFault.TheVariants.{Failed, Memory as OfMemory}
use Rattle.qq_disk.specs.Disk.{Disk}
use Rattle.qq_base.specs.Causes.{raise}
use Rattle.qq_mem_disk.specs.Counter as inner
use Rattle.qq_mem_disk.specs.MemDisk as disks
use Rattle.qq_disk_pins.specs.declared.worn_disk.WornDisk.{WornDisk}

-- the newest first
abbrev pub past_of : WornDisk → List Disk
past_of worn = disks.past_of worn.disk

-- the next call fails halfway: its number is listed
abbrev pub is_worn : WornDisk → Bool
is_worn worn = list_any (λ n. nat_eq n (raise worn.calls)) worn.fails.items

-- the disk in memory fails the next call that is made of it
abbrev pub is_broken : WornDisk → Bool
is_broken worn = inner.will_fail (disks.counter_of worn.disk)

abbrev pub first_half : List ℕ → List ℕ
first_half bytes = take (length bytes / 2) bytes

abbrev pub HasFailed : {T : Type 0} → Result T DiskFault → Type 0 → Type 0
HasFailed (Ok value) P = ⊥
HasFailed (Err Failed) P = P
HasFailed (Err (OfMemory memory)) P = Unit {0}
