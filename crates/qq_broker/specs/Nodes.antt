-- The nodes of a run: what they had, and what the run meets in its yard and in the disks that it gives.
use Rattle.std.specs.Prelude.{◌≡◌, ℕ, true, List, Option, Some, None, Ok, Err, IsTrue, is_some}
use Rattle.qq_base.specs.Causes.{Rose}
use Rattle.qq_disk.specs.Disk.{now}
use Rattle.qq_disk.specs.Facts.{DiskFacts}
use Rattle.qq_log.specs.Stable.{Stable}
use Rattle.qq_lots.specs.Left.{state_in}
use Rattle.qq_lots.specs.Lots.{ids_of}
use Rattle.qq_raft_protocol.specs.Facts.{In}
use Rattle.qq_recover.specs.Reading.{lanes_read, shown}
use Rattle.qq_recover.specs.declared.fault.RecoverFault.{RecoverFault}
use Rattle.qq_recover.specs.declared.fault.RecoverFault.TheVariants as recover_faults
use Rattle.qq_defs.specs.Runnable.{IsRunnable}
use Rattle.qq_route.specs.declared.setup.Setup.{Setup}
use Rattle.qq_route.specs.Setup.{state_of}
use Rattle.qq_wal_chain.specs.Lanes.{Lanes}
use Rattle.qq_cluster_model.specs.Cluster.{ClusterEvent, Setup as ClusterSetup}
use Rattle.qq_cluster_laws.specs.Linked.{lot_of}
use Rattle.qq_cluster_laws.specs.Restarts.{first_restart}
use Rattle.qq_cluster_laws.specs.Serves.{seen_of}
use Rattle.qq_cluster_run.specs.Serving.{Histories, Run, after_all, cluster_in, setup_in}
use Rattle.qq_cluster_run.specs.Troubles.{Damage, AtPlace, OfVersion, Trouble, YardFails, DiskFails, FilesBreak, QueueIsFound, NumberEnds, TakerIsGone}
use Rattle.qq_cluster.specs.Nodes.{NumberAt, Stands, seen}
use Rattle.qq_cluster.specs.declared.nodes.Nodes.{Nodes}
use Rattle.qq_broker.specs.Lives.{Became, Giving, IsGiven}

-- a setup that nodes may be opened with
abbrev pub MayRun : Setup → Type 0
MayRun s = IsRunnable (state_of s)

-- ---- what the disks had

-- where these events happened, each node's disk is what has become of one that was given for it
abbrev pub Had : {D : Type 0} → Giving D → DiskFacts D → Histories
Had {D} given facts setup events =
    (k : ℕ) → In k setup.nodes → (last : D) × Became given facts setup events k last

-- this is a node's disk as it is
abbrev pub IsDiskOf : {D : Type 0} → DiskFacts D → Nodes D → ℕ → D → Type 0
IsDiskOf facts held k disk = seen facts held k ≡ seen_of facts disk

-- Nodes stand for the cluster of a run, which has restarted each of them, and each one's disk is what has become of one that
-- was given for it.
pub record Holds {D : Type 0} (given : Giving D) (facts : DiskFacts D) (s : Setup) (held : Nodes D)
    (run : Run) : Type 0 where
  pub stands : Stands facts (setup_in s run) held (cluster_in s run)
  pub restarted : (k : ℕ) → In k (setup_in s run).nodes → is_some (first_restart k run.events) ≡ true
  pub disks : (k : ℕ) → In k (setup_in s run).nodes
      → (last : D) × IsDiskOf facts held k last × Became given facts (setup_in s run) run.events k last

-- ---- what a run meets in its yard, and in the disks that it gives

-- a disk's count of faults rose since it was given for this node
pub record HasFailed {D : Type 0} (given : Giving D) (facts : DiskFacts D) (k : ℕ) : Type 0 where
  pub first : D
  pub given_is : IsGiven given facts k first
  pub last : D
  pub told : facts.tells last ≡ facts.tells first
  pub rose : Rose (facts.faults first) (facts.faults last)

-- where recovery refuses a disk
abbrev pub damage_of : RecoverFault → Option Damage
damage_of (recover_faults.Damaged file place) = Some (AtPlace file.number place)
damage_of (recover_faults.Version file byte) = Some (OfVersion file.number byte)
damage_of _ = None

-- Until its first restart a node's disk is as it was given.
abbrev pub IsAsGiven : {D : Type 0} {given : Giving D} {facts : DiskFacts D} {setup : ClusterSetup}
    {events : List ClusterEvent} {k : ℕ} {last : D}
    → Became given facts setup events k last → Type 0
IsAsGiven {events = events} {k = k} {last = last} became = first_restart k events ≡ None → last ≡ became.first

-- What has become of a node's disk breaks the rules of its log; where the disk shows its contents, recovery reads it so.
pub record IsBroken {D : Type 0} (given : Giving D) (facts : DiskFacts D) (setup : ClusterSetup)
    (events : List ClusterEvent) (k : ℕ) (damage : Damage) : Type 0 where
  pub last : D
  pub became : Became given facts setup events k last
  pub as_given : IsAsGiven became
  pub fault : RecoverFault
  pub is : damage_of fault ≡ Some damage
  pub read : IsTrue (facts.tells last) → lanes_read (ids_of (lot_of setup k))
      (shown (now (facts.past last))) ≡ Err fault

-- what recovery reads of a queue in what has become of a node's disk, where that shows its contents
pub record HoldsQueue {D : Type 0} (given : Giving D) (facts : DiskFacts D) (setup : ClusterSetup)
    (events : List ClusterEvent) (k place : ℕ) (lane : Stable) : Type 0 where
  pub last : D
  pub became : Became given facts setup events k last
  pub as_given : IsAsGiven became
  pub read : IsTrue (facts.tells last) → (lanes : Lanes)
      × (lanes_read (ids_of (lot_of setup k)) (shown (now (facts.past last))) ≡ Ok lanes)
      × (lane ≡ state_in lanes (setup.args place).queue)

-- After these events nodes have the number at its end. Each one's disk is what has become of one that was given for it;
-- so where the number is of a log, that disk tells it.
pub record HasNumber {D : Type 0} (given : Giving D) (facts : DiskFacts D) (setup : ClusterSetup)
    (events : List ClusterEvent) (number : ℕ) : Type 0 where
  pub held : Nodes D
  pub stands : Stands facts setup held (after_all setup events)
  pub disks : (k : ℕ) → In k setup.nodes
      → (last : D) × IsDiskOf facts held k last × Became given facts setup events k last
  pub at : NumberAt facts held number

abbrev pub Meets : {D : Type 0} → Giving D → DiskFacts D → (before after : ℕ)
    → Trouble → Type 0
Meets given facts before after YardFails = Rose before after
Meets given facts before after (DiskFails k) = HasFailed given facts k
Meets given facts before after (FilesBreak setup events k damage) =
    IsBroken given facts setup events k damage
Meets given facts before after (QueueIsFound setup events k place lane) =
    HoldsQueue given facts setup events k place lane
Meets given facts before after (NumberEnds setup events number) =
    HasNumber given facts setup events number
Meets given facts before after (TakerIsGone setup events number) = ⊥
