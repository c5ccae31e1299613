-- What recovery finds of a node's queues, and the log that goes on after it.
use Rattle.std.specs.Prelude.{◌≡◌, ◌≢◌, ℕ, List, [], ◌∷◌, Option, Some, None, Result, Ok, Err, IfSome, IsTrue, take}
use Rattle.std.specs.List.{AllByRecursion, AllZip}
use Rattle.qq_base.specs.declared.ids.QueueId.{QueueId}
use Rattle.qq_disk.specs.declared.image.Image.{Image}
use Rattle.qq_disk.specs.declared.name.FileName.{FileName}
use Rattle.qq_disk.specs.Disk.{Disk, now}
use Rattle.qq_disk.specs.Facts.{DiskFacts}
use Rattle.qq_disk.specs.Image.{IsNewestLog, image_of}
use Rattle.qq_disk.specs.Moments.{Adds}
use Rattle.qq_log.specs.declared.lane.Lane.{Lane}
use Rattle.qq_lots.specs.Kept.{IsTied, KeepsPromised}
use Rattle.qq_lots.specs.Left.{AllBetween, ops_found, state_in}
use Rattle.qq_lots.specs.Lots.{Lot, Parts, find_each, ids_of}
use Rattle.qq_ports.specs.Yard.{IsNew}
use Rattle.qq_recover.specs.declared.fault.RecoverFault.{RecoverFault}
use Rattle.qq_recover.specs.Reading.{lanes_read, shown}
use Rattle.qq_recover.specs.Recovered.{IsLaneFor, IsNoRefusal}
use Rattle.qq_recover.specs.State.{IsWithinEnds}
use Rattle.qq_wal_chain.specs.Lanes.{Lanes}
use Rattle.qq_wal_chain.specs.Laws.{IsHonestImage}
use Rattle.qq_node_log.specs.declared.recovering.Found.{Found}
use Rattle.qq_node_log.specs.Ends.{end_of, ends}
use Rattle.qq_node_log.specs.Log.{IsRunning}
use Rattle.qq_node_log.specs.Steps.{AlwaysKeeps}

-- ---- a crash

-- the image that a crash names meets the log's premise on what crashes leave
abbrev pub MeetsPremise : Lot → Image → Disk → Type 0
MeetsPremise lot image d =
    (newest : Option FileName) → IsNewestLog d image.removed_back newest
    → IsHonestImage (ids_of lot) d (image_of image newest d)

-- ---- a recovery

-- no two queues have one number
abbrev pub AreDistinct : List QueueId → Type 0
AreDistinct [] = Unit {0}
AreDistinct (id ∷ queues) = AllByRecursion (λ (other : QueueId). other.0 ≢ id.0) queues × AreDistinct queues

-- the disk, in the log or handed back
abbrev pub disk_of : {D : Type 0} → Result (Found D) (RecoverFault × D) → D
disk_of (Ok found) = found.wal.disk
disk_of (Err e) = e.1

-- one lane for each queue, in their order, None for one without ops
abbrev pub AreLanes : List QueueId → Lanes → List (Option Lane) → Type 0
AreLanes queues lanes found = AllZip (λ (id : QueueId) (lane : Option Lane). IsLaneFor id (lanes id.0) lane) queues found

-- of each queue, so many of its ops as its lane has end where the lane ends
abbrev pub AllEnd : Lot → Parts → Lanes → Type 0
AllEnd lot parts lanes =
    AllByRecursion
    (λ (place : ℕ). ends (take (ops_found lot lanes place) (parts place).ops) ≡ Some (end_of (state_in lanes (lot.id place))))
    lot.places

-- Of parts that a disk kept the promise of, recovery settles on what lies between: at each moment the promise is kept, and
-- then the disk holds what was found.
pub record Settles (lot : Lot) (parts : Parts) (lanes : Lanes) (old new : List Disk) : Type 0 where
  pub between : AllBetween lot parts lanes
  pub stays : Adds (KeepsPromised lot parts) old new
  pub tied : IsTied lot (find_each (ops_found lot lanes) parts) (now new)

-- What is found: a lane for each queue, within its ends, and the log that goes on with them. It is what a disk that tells
-- its contents shows.
pub record HasFound {D : Type 0} (facts : DiskFacts D) (queues : List QueueId) (log_bytes : ℕ) (disk : D)
    (f : Found D) : Type 0 where
  pub lanes : Lanes
  pub each : AreLanes queues lanes f.lanes.items
  pub within : AllByRecursion (λ (lane : Option Lane). IfSome lane IsWithinEnds) f.lanes.items
  pub limit : f.wal.log_bytes ≡ log_bytes
  pub goes_on : (lot : Lot) (parts : Parts) → queues ≡ ids_of lot → AllEnd lot parts lanes
      → IsRunning facts lot (find_each (ops_found lot lanes) parts) f.wal
  pub read : IsTrue (facts.tells disk) → lanes_read queues (shown (now (facts.past disk))) ≡ Ok lanes
  pub settles : IsTrue (facts.tells disk) → (lot : Lot) (parts : Parts) → queues ≡ ids_of lot
      → KeepsPromised lot parts (now (facts.past disk)) → Settles lot parts lanes
      (facts.past disk) (facts.past f.wal.disk)
  pub new : IsTrue (facts.tells disk) → IsNew (facts.past disk) → (id : ℕ) → lanes id ≡ None

-- it failed: the files of a disk that kept a promise weren't refused, and it keeps the promise
abbrev pub FailsKeeping : List QueueId → List Disk → List Disk → RecoverFault → Type 0
FailsKeeping queues old new fault =
    (lot : Lot) (parts : Parts) → queues ≡ ids_of lot → KeepsPromised lot parts (now old)
    → IsNoRefusal fault × AlwaysKeeps lot parts old new
