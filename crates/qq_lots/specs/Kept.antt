-- What a disk keeps of the queues of a log.
use Rattle.std.specs.Prelude.{◌≡◌, ◌≤◌, ℕ, List, ◌++◌, length, take}
use Rattle.std.specs.List.{AllByRecursion}
use Rattle.qq_base.specs.Fronts.{IsFront}
use Rattle.qq_disk.specs.Disk.{Disk}
use Rattle.qq_log.specs.declared.op.Op.{Op}
use Rattle.qq_wal.specs.Running.{top}
use Rattle.qq_wal_chain.specs.Laws.{HoldsOps, KeepsPromise}
use Rattle.qq_lots.specs.Lots.{Lot, Part, Parts, ids_of, ops_at}

-- ---- whatever has become of the node

-- the log was given no more than the part has, and promises as many as a sync has kept
pub record IsPromised (p : Part) (noticed given : List Op) : Type 0 where
  pub front : IsFront given p.ops
  pub covers : p.synced ≤ length noticed

abbrev pub AllPromised : Lot → Parts → List Op → List Op → Type 0
AllPromised lot parts noticed given =
    AllByRecursion (λ (place : ℕ). IsPromised (parts place) (ops_at lot place noticed) (ops_at lot place given))
    lot.places

-- the disk keeps what the log promised of each queue
pub record KeepsPromised (lot : Lot) (parts : Parts) (d : Disk) : Type 0 where
  pub noticed : List Op
  pub given : List Op
  pub each : AllPromised lot parts noticed given
  pub promise : KeepsPromise (ids_of lot) top noticed given d

-- ---- between the calls of a log that goes on

-- the log was given all that the part has, and has kept what is synced
pub record IsWritten (p : Part) (noticed given : List Op) : Type 0 where
  pub written : given ≡ p.ops
  pub synced : noticed ≡ take p.synced p.ops
  pub within : p.synced ≤ length p.ops

abbrev pub AllWritten : Lot → Parts → List Op → List Op → Type 0
AllWritten lot parts noticed given =
    AllByRecursion (λ (place : ℕ). IsWritten (parts place) (ops_at lot place noticed) (ops_at lot place given))
    lot.places

-- the disk holds all of each queue's part, and keeps what is synced
pub record IsTied (lot : Lot) (parts : Parts) (d : Disk) : Type 0 where
  pub noticed : List Op
  pub given : List Op
  pub each : AllWritten lot parts noticed given
  pub holds : HoldsOps (ids_of lot) top given d
  pub promise : KeepsPromise (ids_of lot) top noticed given d

-- ---- between the batches of a write, in the words of the parts after the whole write

-- with the rest the log was given all that the part has
pub record IsLeft (p : Part) (noticed given rest : List Op) : Type 0 where
  pub all : given ++ rest ≡ p.ops
  pub synced : noticed ≡ take p.synced p.ops
  pub within : p.synced ≤ length given

abbrev pub AllLeft : Lot → Parts → List Op → List Op → List Op → Type 0
AllLeft lot parts noticed given rest =
    AllByRecursion
    (λ (place : ℕ). IsLeft (parts place) (ops_at lot place noticed) (ops_at lot place given)
    (ops_at lot place rest)) lot.places

-- the disk holds all of each queue's part but the rest
pub record LacksRest (lot : Lot) (parts : Parts) (rest : List Op) (d : Disk) : Type 0 where
  pub noticed : List Op
  pub given : List Op
  pub each : AllLeft lot parts noticed given rest
  pub holds : HoldsOps (ids_of lot) top given d
  pub promise : KeepsPromise (ids_of lot) top noticed given d
