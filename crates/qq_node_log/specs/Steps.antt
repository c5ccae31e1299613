-- What a call leaves of a node's log, of whatever parts it went on.
use Rattle.std.specs.Prelude.{◌≡◌, ◌≤◌, List, IsTrue}
use Rattle.qq_base.specs.declared.ids.QueueId.{QueueId}
use Rattle.qq_disk.specs.Disk.{Disk, now}
use Rattle.qq_disk.specs.Facts.{DiskFacts}
use Rattle.qq_disk.specs.Moments.{Adds}
use Rattle.qq_log.specs.declared.op.Op.{Op}
use Rattle.qq_lots.specs.Kept.{IsTied, KeepsPromised}
use Rattle.qq_lots.specs.Lots.{Lot, Parts, ids_of}
use Rattle.qq_node_log.specs.declared.node_log.NodeLog.{NodeLog}
use Rattle.qq_node_log.specs.Giving.{MayGive}
use Rattle.qq_node_log.specs.Log.{IsRunningIn, IsWhole, disk_in}

-- the log goes on with some parts
abbrev pub MaySync : {D : Type 0} → DiskFacts D → NodeLog D → Type 0
MaySync facts log = (lot : Lot) × (parts : Parts) × IsRunningIn facts lot parts log

-- and may be given these ops
abbrev pub MayAppend : {D : Type 0} → DiskFacts D → List Op → NodeLog D → Type 0
MayAppend facts ops log =
    (lot : Lot) × (parts : Parts) × IsRunningIn facts lot parts log × MayGive lot parts ops

-- ---- whatever the answer is

-- the disk tells its contents as before, its count of faults doesn't fall, and it may be recovered as before
pub record SameDisk {D : Type 0} (facts : DiskFacts D) (queues : List QueueId) (old new : D) : Type 0 where
  pub told : facts.tells new ≡ facts.tells old
  pub later : facts.faults old ≤ facts.faults new
  pub whole : IsWhole facts queues old → IsWhole facts queues new

abbrev pub KeepsDisk : {D : Type 0} → DiskFacts D → NodeLog D → NodeLog D → Type 0
KeepsDisk facts old new =
    (lot : Lot) (parts : Parts) → IsRunningIn facts lot parts old
    → SameDisk facts (ids_of lot) (disk_in old) (disk_in new)

-- at each moment since, and now, the disk keeps what was promised of these parts
abbrev pub AlwaysKeeps : Lot → Parts → List Disk → List Disk → Type 0
AlwaysKeeps lot parts old new = Adds (KeepsPromised lot parts) old new × KeepsPromised lot parts (now new)

-- over a disk that tells, and held what the log was given, at each moment it keeps what was promised of these parts
abbrev pub CallKeeps : {D : Type 0} → DiskFacts D → (Lot → Parts → Parts) → NodeLog D → NodeLog D → Type 0
CallKeeps facts later old new =
    (lot : Lot) (parts : Parts) → IsRunningIn facts lot parts old → IsTrue (facts.tells (disk_in old))
    → IsTied lot parts (now (facts.past (disk_in old)))
    → AlwaysKeeps lot (later lot parts) (facts.past (disk_in old)) (facts.past (disk_in new))

-- ---- a log that goes on

-- it goes on with these parts; and over a disk that tells, and held what the log was given, it holds these
pub record RunsOn {D : Type 0} (facts : DiskFacts D) (later : Lot → Parts → Parts) (old new : NodeLog D) : Type 0 where
  pub running : (lot : Lot) (parts : Parts) → IsRunningIn facts lot parts old
      → IsRunningIn facts lot (later lot parts) new
  pub tied : (lot : Lot) (parts : Parts) → IsRunningIn facts lot parts old → IsTrue (facts.tells (disk_in old))
      → IsTied lot parts (now (facts.past (disk_in old))) → IsTied lot (later lot parts)
      (now (facts.past (disk_in new)))
