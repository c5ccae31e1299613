-- A node's log as its calls see it: of which parts it goes on.
use Rattle.std.specs.Prelude.{◌≡◌, ◌≤◌, ◌++◌, Bool, true, false, List, [], IsTrue}
use Rattle.qq_base.specs.declared.ids.QueueId.{QueueId}
use Rattle.qq_disk.specs.Disk.{Disk, now}
use Rattle.qq_disk.specs.Facts.{DiskFacts}
use Rattle.qq_lots.specs.Lots.{Lot, Parts, ids_of}
use Rattle.qq_wal.specs.Running.{MayRecover, StillMayRecover}
use Rattle.qq_wal.specs.Wal.{IsSound, carries_ahead}
use Rattle.qq_wal.specs.declared.wal.Wal.{Wal}
use Rattle.qq_node_log.specs.declared.node_log.NodeLog.{NodeLog}
use Rattle.qq_node_log.specs.declared.node_log.NodeLog.TheVariants.{Open, Closed}
use Rattle.qq_node_log.specs.Ends.{CarriesAre}

-- the disk, in the log that is written to or held alone
abbrev pub disk_in : {D : Type 0} → NodeLog D → D
disk_in (Open wal) = wal.disk
disk_in (Closed disk) = disk

abbrev pub is_open : {D : Type 0} → NodeLog D → Bool
is_open (Open wal) = true
is_open (Closed disk) = false

-- a disk that tells its contents may be recovered as the log of these queues: no removed file has a say in it
abbrev pub IsWhole : {D : Type 0} → DiskFacts D → List QueueId → D → Type 0
IsWhole facts queues disk = IsTrue (facts.tells disk) → MayRecover queues (now (facts.past disk))

-- and so may what a call leaves of it
abbrev pub StillWhole : {D : Type 0} → DiskFacts D → List QueueId → D → D → Type 0
StillWhole facts queues old new = IsTrue (facts.tells old) → StillMayRecover queues (facts.past old) (facts.past new)

-- moments came, and those before are as they were
abbrev pub IsGrown : List Disk → List Disk → Type 0
IsGrown old new = (more : List Disk) × (new ≡ more ++ old)

-- a disk later on: it tells its contents as before, and where it does, moments came
pub record IsLater {D : Type 0} (facts : DiskFacts D) (old new : D) : Type 0 where
  pub told : facts.tells new ≡ facts.tells old
  pub grown : IsTrue (facts.tells old) → IsGrown (facts.past old) (facts.past new)

-- no log file has a greater number than the one that is written to
abbrev pub IsInNewest : {D : Type 0} → Wal D → Type 0
IsInNewest wal = wal.numbers.log ≡ wal.header.file

-- What each call of the log leaves: it is sound, of the same queues, which end with what waits where they ended, over a
-- disk that tells as before, counts no fewer faults, and may be recovered as before.
pub record SameLog {D : Type 0} (facts : DiskFacts D) (old new : Wal D) : Type 0
  where
    pub sound : IsSound facts new
    pub queues : new.queues ≡ old.queues
    pub ahead : carries_ahead new ≡ carries_ahead old
    pub told : facts.tells new.disk ≡ facts.tells old.disk
    pub later : facts.faults old.disk ≤ facts.faults new.disk
    pub whole : StillWhole facts old.queues.items old.disk new.disk
    pub grown : IsTrue (facts.tells old.disk) → IsGrown (facts.past old.disk) (facts.past new.disk)
    pub newest : IsInNewest old → IsInNewest new

-- The log is of the lot's queues, goes on where their parts end, in the newest file, and nothing waits in it.
pub record IsRunning {D : Type 0} (facts : DiskFacts D) (lot : Lot) (parts : Parts) (wal : Wal D) : Type 0 where
  pub sound : IsSound facts wal
  pub queues_are : wal.queues.items ≡ ids_of lot
  pub waiting : wal.waiting.items ≡ []
  pub going : wal.stopped ≡ false
  pub newest : IsInNewest wal
  pub carries : CarriesAre lot parts (carries_ahead wal)

abbrev pub IsRunningIn : {D : Type 0} → DiskFacts D → Lot → Parts → NodeLog D → Type 0
IsRunningIn facts lot parts (Open wal) = IsRunning facts lot parts wal
IsRunningIn facts lot parts (Closed disk) = ⊥

-- the log of a node that is up goes on, and that of any node has a disk that may be recovered
pub record Stands {D : Type 0} (facts : DiskFacts D) (lot : Lot) (parts : Parts) (up : Bool)
    (log : NodeLog D) : Type 0 where
  pub running : up ≡ true → IsRunningIn facts lot parts log
  pub whole : IsWhole facts (ids_of lot) (disk_in log)
