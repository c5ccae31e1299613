-- A yard in memory: which disks it holds, and which calls it fails.
use Rattle.std.specs.Prelude.{◌≡◌, ◌&&◌, ◌==◌, ℕ, suc, Bool, true, false, List, [], ◌∷◌, Option, Some, None, Result, Ok, Err, nat_eq, if◌then◌else◌}
use Rattle.std.specs.List.{list_any}
use Rattle.std.specs.Str.{bytes_eq}
use Rattle.std.specs.declared.alloc.Global.{Global}
use Rattle.std.specs.declared.string.String.{String}
use Rattle.qq_base.specs.Causes.{raise}
use Rattle.qq_base.specs.declared.ids.NodeId.{NodeId}
use Rattle.qq_disk.specs.declared.image.Image.{Image}
use Rattle.qq_disk.specs.declared.image.Tail.TheVariants.{Whole}
use Rattle.qq_mem_disk.specs.declared.mem_disk.MemDisk.{MemDisk}
use Rattle.qq_mem_disk.specs.Counter.{IsFresh}
use Rattle.qq_mem_disk.specs.MemDisk.{past_of, counter_of}
use Rattle.qq_ports.specs.Yard.{IsAfterCrash, IsFreshDisk}
use Rattle.qq_ports.specs.declared.yard_fault.YardFault.{YardFault}
use Rattle.qq_ports.specs.declared.yard_fault.YardFault.TheVariants.{Failed, Memory as OfMemory}
use Rattle.qq_ports.specs.declared.mem_yard.MemYard.{MemYard}

-- ---- which disks it holds

-- a disk with its root and node
abbrev pub Row : Type 0
Row = String Global × NodeId × MemDisk

abbrev pub is_of : List ℕ → NodeId → Row → Bool
is_of root node row = bytes_eq row.0.bytes.items root && (row.1.0 == node.0)

-- how many stand before the first of this root and node
abbrev pub place_of : List ℕ → NodeId → List Row → ℕ
place_of root node [] = 0
place_of root node (row ∷ rows) = if is_of root node row then 0 else suc (place_of root node rows)

-- the first disk of this root and node
abbrev pub first_of : List ℕ → NodeId → List Row → Option MemDisk
first_of root node [] = None
first_of root node (row ∷ rows) = if is_of root node row then Some row.2 else first_of root node rows

-- the rows without it
abbrev pub without : List ℕ → NodeId → List Row → List Row
without root node [] = []
without root node (row ∷ rows) = if is_of root node row then rows else row ∷ without root node rows

-- the disk that is held for a root and a node, none without a root
abbrev pub disk_for : Option (List ℕ) → NodeId → List Row → Option MemDisk
disk_for None node rows = None
disk_for (Some root) node rows = first_of root node rows

-- and what is held once it was given away
abbrev pub rows_after : Option (List ℕ) → NodeId → List Row → List Row
rows_after None node rows = rows
rows_after (Some root) node rows = without root node rows

-- what is left where nothing pending is lost, and no removed file comes back
abbrev pub all_kept : Image
all_kept = record { newest_log = Whole; others = Whole; removed_back = false }

-- the disk that was held, opened again with all that it holds, and else a new one; no call of it is to fail
abbrev pub Gives : Option MemDisk → MemDisk → Type 0
Gives None disk = IsFreshDisk disk
Gives (Some held) disk = IsAfterCrash all_kept (past_of held) (past_of disk) × IsFresh (counter_of disk)

-- ---- which calls fail

-- the number of the next call is listed
abbrev pub will_fail : MemYard → Bool
will_fail yard = list_any (λ n. nat_eq n (raise yard.calls)) yard.fails.items

abbrev pub has_failed : {T : Type 0} → Result T YardFault → Bool
has_failed (Ok value) = false
has_failed (Err Failed) = true
has_failed (Err (OfMemory memory)) = false

-- a call was counted, and failed exactly where it was to fail
pub record CountsCall {T : Type 0} (old new : MemYard) (result : Result T YardFault) : Type 0 where
  pub calls : new.calls ≡ raise old.calls
  pub faults : new.faults ≡ (if will_fail old then raise old.faults else old.faults)
  pub fails : new.fails ≡ old.fails
  pub failed : has_failed result ≡ will_fail old

-- how often a call has failed
abbrev pub fault_count : {T : Type 0} → Result T YardFault → ℕ
fault_count result = if has_failed result then 1 else 0
