-- What may go wrong below a run: in its yard, in a node's disk, in what that holds, with numbers that rise, and with
-- takers.
use Rattle.std.specs.Prelude.{ℕ, List}
use Rattle.qq_log.specs.Stable.{Stable}
use Rattle.qq_cluster_model.specs.Cluster.{Setup as ClusterSetup, ClusterEvent}
use Rattle.qq_cluster_run.specs.Endings.{Ending, damaged, other_version}

-- where the files of a log break its rules: at a place of a file, or in a file of another version
pub data Damage : Type 0 where
  AtPlace : (file place : ℕ) → Damage
  OfVersion : (file byte : ℕ) → Damage

-- how a run ends that meets it on a node
abbrev pub damage_ending : ℕ → Damage → Ending
damage_ending node (AtPlace file place) = damaged node file place
damage_ending node (OfVersion file byte) = other_version node file byte

pub data Trouble : Type 0 where
  -- the yard's count of faults rose
  YardFails : Trouble
  -- that of a node's disk did, since the yard gave it
  DiskFails : (node : ℕ) → Trouble
  -- after these events the files of a node's log break its rules so
  FilesBreak : ClusterSetup → List ClusterEvent → (node : ℕ) → Damage → Trouble
  -- after these events recovery of a node reads this of the queue at a place
  QueueIsFound : ClusterSetup → List ClusterEvent → (node place : ℕ) → Stable → Trouble
  -- after these events this number would have to rise, and stands at its end
  NumberEnds : ClusterSetup → List ClusterEvent → (number : ℕ) → Trouble
  -- after these events no taker of this number is there that may be given to a consumer
  TakerIsGone : ClusterSetup → List ClusterEvent → (number : ℕ) → Trouble
