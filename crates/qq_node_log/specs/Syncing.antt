-- What a sync of a node's log does, and how far it comes.
use Rattle.std.specs.Prelude.{◌≡◌, ◌<◌, ◌+◌, ◌≤◌, ℕ, Bool, true, false, List, None, IsTrue}
use Rattle.qq_base.specs.Causes.{Rose, SpentOnlyWhere}
use Rattle.qq_base.specs.declared.ids.QueueId.{QueueId}
use Rattle.qq_base.specs.declared.memory.Memory.{Memory}
use Rattle.qq_base.specs.declared.memory.Memory.TheVariants.{Want, Spent}
use Rattle.qq_base.specs.declared.memory.TheConstants.{NUMBER_END}
use Rattle.qq_disk.specs.Disk.{Disk, IsListed, contents, now}
use Rattle.qq_disk.specs.Facts.{DiskFacts}
use Rattle.qq_disk.specs.Image.{log_of}
use Rattle.qq_disk.specs.Moments.{Adds}
use Rattle.qq_lots.specs.Kept.{IsTied, KeepsPromised}
use Rattle.qq_lots.specs.Lots.{Lot, Parts, ids_of, keep_all}
use Rattle.qq_wal.specs.declared.wal.Wal.{Wal}
use Rattle.qq_wal.specs.Running.{MayNotice, Stays, StillHolds}
use Rattle.qq_wal.specs.Wal.{is_full}
use Rattle.qq_node_log.specs.declared.node_log.NodeLog.{NodeLog}
use Rattle.qq_node_log.specs.declared.node_log.NodeLog.TheVariants.{Open, Closed}
use Rattle.qq_node_log.specs.declared.syncing.SyncOutcome.{SyncOutcome}
use Rattle.qq_node_log.specs.declared.syncing.SyncOutcome.TheVariants.{Whole, NoFile, Nothing}
use Rattle.qq_node_log.specs.Log.{IsRunningIn, disk_in}

-- At a moment between, all that the log was given is synced. Until then the disk keeps what was promised before, and from
-- then on that all is kept.
pub record IsSyncedBetween (lot : Lot) (parts : Parts) (old new : List Disk) : Type 0 where
  pub mid : List Disk
  pub stays : Adds (KeepsPromised lot parts) old mid
  pub tied : IsTied lot (keep_all parts) (now mid)
  pub later : Adds (KeepsPromised lot (keep_all parts)) mid new

-- how far a sync came, over a disk that held what the log was given
abbrev pub HasCome : SyncOutcome → Lot → Parts → List Disk → List Disk → Type 0
HasCome Whole lot parts old new =
    IsSyncedBetween lot parts old new × IsTied lot (keep_all parts) (now new)
HasCome NoFile lot parts old new = IsSyncedBetween lot parts old new
HasCome Nothing lot parts old new = Adds (KeepsPromised lot parts) old new

-- of whatever parts of these queues the disk held
abbrev pub Comes : SyncOutcome → List QueueId → List Disk → List Disk → Type 0
Comes outcome queues old new =
    (lot : Lot) (parts : Parts) → queues ≡ ids_of lot → IsTied lot parts (now old) → HasCome outcome lot parts old new

-- of whatever parts the log went on
abbrev pub SyncsIn : {D : Type 0} → DiskFacts D → SyncOutcome → NodeLog D → NodeLog D → Type 0
SyncsIn facts outcome old new =
    (lot : Lot) (parts : Parts) → IsRunningIn facts lot parts old → IsTrue (facts.tells (disk_in old))
    → IsTied lot parts (now (facts.past (disk_in old)))
    → HasCome outcome lot parts (facts.past (disk_in old)) (facts.past (disk_in new))

-- it failed only where the disk's count rose
abbrev pub FailsByCount : ℕ → ℕ → SyncOutcome → Type 0
FailsByCount before later Whole = Unit {0}
FailsByCount before later _ = Rose before later

-- ---- in steps

-- all that was appended is synced
pub record IsSynced (queues : List QueueId) (old new : List Disk) : Type 0 where
  pub stays : Stays queues old new
  pub noticed : MayNotice queues (now old) (now new)
  pub holds : StillHolds queues (now old) (now new)

-- a full file is replaced by the next one, and no other
abbrev pub IsNextFile : {D : Type 0} → Bool → Wal D → Wal D → Type 0
IsNextFile true old new = new.header.file ≡ old.numbers.log + 1
IsNextFile false old new = new.header ≡ old.header

-- the log goes on with what was gathered, in the next file where the old one was full
pub record GoesOnAs {D : Type 0} (full : Bool) (old new : Wal D) : Type 0 where
  pub going : new.stopped ≡ false
  pub waiting : new.waiting.items ≡ old.waiting.items
  pub file : IsNextFile full old new

-- What a sync leaves of the log as far as it came: where nothing was synced, nothing counts as synced.
abbrev pub Leaves : {D : Type 0} → SyncOutcome → Wal D → Wal D → Type 0
Leaves Whole old new = GoesOnAs (is_full old) old new
Leaves NoFile old new = new.dirty ≡ false
Leaves Nothing old new = new ≡ record old { disk = new.disk; stopped = new.stopped }

abbrev pub LeavesIn : {D : Type 0} → SyncOutcome → NodeLog D → NodeLog D → Type 0
LeavesIn outcome (Open old) (Open new) = Leaves outcome old new
LeavesIn outcome _ _ = ⊥

-- ---- why it gave up

-- the greatest number of a log file is at its end
abbrev pub IsLast : {D : Type 0} → Wal D → Memory → Type 0
IsLast wal memory = SpentOnlyWhere memory wal.numbers.log (NUMBER_END ≤ wal.numbers.log)

abbrev pub IsLastIn : {D : Type 0} → NodeLog D → Memory → Type 0
IsLastIn (Open wal) memory = IsLast wal memory
IsLastIn (Closed disk) memory = ⊥

-- it is that of a log file of the disk, and no log file has a greater one
pub record HasLastLog (number : ℕ) (d : Disk) : Type 0 where
  pub there : IsListed d (log_of number)
  pub greatest : (n : ℕ) → number < n → contents d (log_of n) ≡ None
  pub end : NUMBER_END ≤ number

-- it is what the disk holds
abbrev pub IsLastOn : Memory → Disk → Type 0
IsLastOn Want d = Unit {0}
IsLastOn (Spent number) d = HasLastLog number d
