-- What a call of a node's log leaves.
use Rattle.std.specs.Prelude.{◌≡◌, ℕ, Bool, true, false, List, Some, IsTrue, slice_get, slice_set}
use Rattle.qq_base.specs.Causes.{Rose}
use Rattle.qq_base.specs.declared.memory.Memory.{Memory}
use Rattle.qq_disk.specs.Disk.{now}
use Rattle.qq_disk.specs.Facts.{DiskFacts}
use Rattle.qq_log.specs.declared.op.Op.{Op}
use Rattle.qq_lots.specs.Lots.{Lot, Parts, give_batch, keep_all}
use Rattle.qq_node_log.specs.Batches.{IsLongIn, IsLongOn}
use Rattle.qq_node_log.specs.Log.{IsLater, disk_in}
use Rattle.qq_node_log.specs.Steps.{CallKeeps, KeepsDisk, MayAppend, MaySync, RunsOn}
use Rattle.qq_node_log.specs.Syncing.{FailsByCount, IsLastIn, IsLastOn, SyncsIn}
use Rattle.qq_node_log.specs.declared.node_log.NodeLog.{NodeLog}
use Rattle.qq_node_log.specs.declared.syncing.SyncOutcome.{SyncOutcome}
use Rattle.qq_node_log.specs.declared.syncing.SyncOutcome.TheVariants.{Whole}
use Rattle.qq_cluster.specs.declared.node.Node.{Node}

-- the log of the node at an index takes the ops
pub record MayAppendAt {D : Type 0} (facts : DiskFacts D) (ops : List Op) (node : Node D) : Type 0
  where
    pub own : NodeLog D
    pub is : node.log ≡ Some own
    pub may : MayAppend facts ops own

pub record MaySyncAt {D : Type 0} (facts : DiskFacts D) (node : Node D) : Type 0 where
  pub own : NodeLog D
  pub is : node.log ≡ Some own
  pub may : MaySync facts own

-- A node has another log, and is the same else. Its disk is later, and at each moment it keeps what was promised, with
-- these parts.
pub record ChangesLog {D : Type 0} (facts : DiskFacts D) (parts : Lot → Parts → Parts) (old new : Node D) : Type 0 where
  pub before : NodeLog D
  pub behind : NodeLog D
  pub was : old.log ≡ Some before
  pub is : new ≡ record old { log = Some behind }
  pub same : KeepsDisk facts before behind
  pub later : IsLater facts (disk_in before) (disk_in behind)
  pub moments : CallKeeps facts parts before behind

-- ops were appended, or the disk failed
pub record Appends {D : Type 0} (facts : DiskFacts D) (ops : List Op) (more : Bool) (old new : Node D) : Type 0 where
  pub change : ChangesLog facts (λ (lot : Lot). give_batch lot ops) old new
  pub runs : more ≡ true → RunsOn facts (λ (lot : Lot). give_batch lot ops) change.before change.behind
  pub failed : more ≡ false → Rose (facts.faults (disk_in change.before)) (facts.faults (disk_in change.behind))

-- some of them were perhaps
pub record AppendsInPart {D : Type 0} (facts : DiskFacts D) (ops : List Op) (memory : Memory)
    (old new : Node D) : Type 0 where
  pub change : ChangesLog facts (λ (lot : Lot). give_batch lot ops) old new
  pub long : IsLongIn change.before ops memory
  pub shown : IsTrue (facts.tells (disk_in change.before))
      → IsLongOn memory ops (now (facts.past (disk_in change.before)))

-- what was appended is synced, as far as that came
pub record Syncs {D : Type 0} (facts : DiskFacts D) (outcome : SyncOutcome) (old new : Node D) : Type 0 where
  pub change : ChangesLog facts (λ (lot : Lot) (parts : Parts). parts) old new
  pub runs : outcome ≡ Whole → RunsOn facts (λ (lot : Lot). keep_all) change.before change.behind
  pub come : SyncsIn facts outcome change.before change.behind
  pub failed : FailsByCount (facts.faults (disk_in change.before)) (facts.faults (disk_in change.behind)) outcome

pub record SyncsInPart {D : Type 0} (facts : DiskFacts D) (memory : Memory) (old new : Node D) : Type 0 where
  pub change : ChangesLog facts (λ (lot : Lot) (parts : Parts). parts) old new
  pub last : IsLastIn change.before memory
  pub shown : IsTrue (facts.tells (disk_in change.before)) → IsLastOn memory (now (facts.past (disk_in change.before)))

-- ---- the node at an index

pub record NodeTurns {D : Type 0} (P : Node D → Node D → Type 0) (at : ℕ) (olds news : List (Node D)) : Type 0 where
  pub old : Node D
  pub new : Node D
  pub here : slice_get olds at ≡ Some old
  pub is : news ≡ slice_set olds at new
  pub turns : P old new
