-- What becomes of a node's disk while events happen.
use Rattle.std.specs.Prelude.{◌≡◌, ◌⊎◌, ◌≤◌, ◌+◌, ◌-◌, ◌^◌, ℕ, zero, suc, Bool, true, false, List, [], ◌∷◌, ◌++◌, Ok, Option, Some, None, IfNone, IsTrue, filter, length, nat_eq, slice_get, if◌then◌else◌}
use Rattle.qq_disk.specs.declared.image.Image.{Image}
use Rattle.qq_disk.specs.Disk.{Disk, now}
use Rattle.qq_disk.specs.Facts.{DiskFacts}
use Rattle.qq_log.specs.declared.op.Op.{Op}
use Rattle.qq_log.specs.Stable.{stable}
use Rattle.qq_lots.specs.Left.{state_in}
use Rattle.qq_lots.specs.Lots.{ids_of}
use Rattle.qq_ports.specs.Yard.{IsAfterCrash, IsNew, IsOpened}
use Rattle.qq_raft_protocol.specs.Facts.{In}
use Rattle.qq_recover.specs.Reading.{lanes_read, shown}
use Rattle.qq_wal_chain.specs.Lanes.{Lanes}
use Rattle.qq_cluster_model.specs.Cluster.{Cluster, ClusterEvent, Crashes, Setup, cluster_after, cluster_happens, new_cluster}
use Rattle.qq_cluster_laws.specs.Linked.{IsLinked, lot_of}
use Rattle.qq_cluster_laws.specs.Restarts.{first_restart}
use Rattle.qq_cluster_laws.specs.Serves.{is_failure_at}
use Rattle.qq_cluster_laws.specs.Traced.{IsTracedAt}
use Rattle.qq_opening.specs.Opening.{told_of}

-- ---- how disks are given

-- where the disks of a run come from
pub data Giving (D : Type 0) : Type 0 where
  -- A yard gives them under a root, None without one; and for which root and node it gave each disk.
  ByYard : (is_given : Option (List ℕ) → ℕ → D → Bool) → (root : Option (List ℕ)) → Giving D
  -- They were handed in as this list: one for each node, in order.
  ByHand : (disks : List D) → Giving D

abbrev pub under : {D : Type 0} → (Option (List ℕ) → ℕ → D → Bool) → Option (List ℕ) → Giving D
under is_given root = ByYard is_given root

-- The yard gave this disk for a node under this root. Where it shows its contents it was just opened, and without a
-- root nothing was ever on it.
pub record IsGivenUnder {D : Type 0} (is_given : Option (List ℕ) → ℕ → D → Bool) (root : Option (List ℕ))
    (facts : DiskFacts D) (k : ℕ) (disk : D) : Type 0 where
  pub asked : is_given root k disk ≡ true
  pub opened : IsTrue (facts.tells disk) → IsOpened (facts.past disk)
  pub new : IfNone root (IsTrue (facts.tells disk) → IsNew (facts.past disk))

-- nodes are numbered from 1
abbrev pub disk_at : {D : Type 0} → ℕ → List D → Option D
disk_at zero disks = None
disk_at (suc at) disks = slice_get disks at

-- the disk was given for a node
abbrev pub IsGiven : {D : Type 0} → Giving D → DiskFacts D → ℕ → D → Type 0
IsGiven (ByYard is_given root) facts k disk = IsGivenUnder is_given root facts k disk
IsGiven (ByHand disks) facts k disk = disk_at k disks ≡ Some disk

-- disks that were handed in may be handed back and be handed in again
abbrev pub IsByHand : {D : Type 0} → Giving D → Type 0
IsByHand (ByYard is_given root) = ⊥
IsByHand (ByHand disks) = Unit {0}

-- ---- the logs with which a node begins

-- what the run's logs hold of a queue on a node as the run begins
abbrev pub log_at : Setup → (k place : ℕ) → List Op
log_at setup k place = ((setup.group place).seat k).ops

-- recovery reads them of a disk
pub record HoldsLogs (setup : Setup) (k : ℕ) (d : Disk) : Type 0 where
  pub lanes : Lanes
  pub read : lanes_read (ids_of (lot_of setup k)) (shown d) ≡ Ok lanes
  pub each : (place : ℕ) → In place (lot_of setup k).places
      → stable (log_at setup k place) ≡ Some (told_of (state_in lanes (setup.args place).queue))

-- they hold nothing
abbrev pub HasNewLogs : Setup → ℕ → Type 0
HasNewLogs setup k = (place : ℕ) → In place (lot_of setup k).places → log_at setup k place ≡ []

-- Which logs a node begins with is as its first restart has it: those that its disk held, where that shows its contents; or
-- new ones where the disk has failed. Before that restart nothing is said.
abbrev pub BeginsBy : {D : Type 0} → DiskFacts D → Setup → ℕ → D → Option Bool → Type 0
BeginsBy facts setup k disk None = Unit {0}
BeginsBy facts setup k disk (Some true) = IsTrue (facts.tells disk) → HoldsLogs setup k (now (facts.past disk))
BeginsBy facts setup k disk (Some false) = HasNewLogs setup k

-- ---- what becomes of a disk

-- how often calls of a node's disk have failed
abbrev pub failures : ℕ → List ClusterEvent → ℕ
failures k events = length (filter (is_failure_at k) events)

-- a count of 64 bits rose so often, or stands at its end
abbrev pub RoseBy : ℕ → ℕ → ℕ → Type 0
RoseBy times before now = (before + times ≤ now) ⊎ (2 ^ 64 - 1 ≤ now)

-- Between two crashes it is one disk, the first and then the last. It shows its contents as before, and its count of faults
-- rose as often as the node has failed. Where it shows its contents, and the node's log was linked, it was at each moment
-- what the events say.
pub record IsOneDisk {D : Type 0} (facts : DiskFacts D) (setup : Setup) (k : ℕ) (c : Cluster)
    (events : List ClusterEvent) (first last : D) : Type 0 where
  pub told : facts.tells last ≡ facts.tells first
  pub rose : RoseBy (failures k events) (facts.faults first) (facts.faults last)
  pub traced : IsTrue (facts.tells first) → IsLinked setup c k (now (facts.past first))
      → IsTracedAt setup c k events (facts.past first) (facts.past last)

-- the named image of a disk
pub record IsImage {D : Type 0} (facts : DiskFacts D) (image : Image) (old new : D) : Type 0 where
  pub told : facts.tells new ≡ facts.tells old
  pub left : IsTrue (facts.tells old) → IsAfterCrash image (facts.past old) (facts.past new)

-- What a crash leaves of a disk: its named image. A disk that goes by hand may also have come back as it was, whatever
-- image the crash names.
abbrev pub IsLeft : {D : Type 0} → Giving D → DiskFacts D → Image → D → D → Type 0
IsLeft given facts image old new = IsImage facts image old new ⊎ (IsByHand given × (new ≡ old))

-- the image that a crash of a node names
abbrev pub crash_of : ℕ → ClusterEvent → Option Image
crash_of k (Crashes j image) = if nat_eq j k then Some image else None
crash_of k _ = None

-- at a crash of the node one disk ends, and what is left of it goes on
abbrev pub at_crash : {D : Type 0} → Option Image → (Ends : D → Type 0) → (Left : Image → D → D → Type 0)
    → (GoesOn : D → Type 0) → (Stays : Type 0) → Type 0
at_crash None Ends Left GoesOn Stays = Stays
at_crash {D} (Some image) Ends Left GoesOn Stays =
    (old : D) × ((new : D) × Ends old × Left image old new × GoesOn new)

-- The first disk has become the last one while events happened, after those since the node was crashed last.
abbrev pub Lives : {D : Type 0} → Giving D → DiskFacts D → Setup → ℕ → Cluster
    → (since events : List ClusterEvent) → (first last : D) → Type 0
Lives given facts setup k c since [] first last = IsOneDisk facts setup k c since first last
Lives given facts setup k c since (event ∷ events) first last =
    at_crash (crash_of k event) (λ old. IsOneDisk facts setup k c since first old) (IsLeft given facts)
    (λ new. Lives given facts setup k (cluster_happens (cluster_after c since) event) [] events new last)
    (Lives given facts setup k c (since ++ event ∷ []) events first last)

-- A disk was given for this node, with whose logs the run begins, and this has become of it.
pub record Became {D : Type 0} (given : Giving D) (facts : DiskFacts D) (setup : Setup) (events : List ClusterEvent)
    (k : ℕ) (last : D) : Type 0 where
  pub first : D
  pub given_is : IsGiven given facts k first
  pub begins : BeginsBy facts setup k first (first_restart k events)
  pub lives : Lives given facts setup k (new_cluster setup) [] events first last
