-- How nodes get their disks, and give them up.
use Rattle.std.specs.Prelude.{◌≡◌, ◌+◌, ℕ, false, List, Some, None, length, slice_get}
use Rattle.qq_node_log.specs.Log.{disk_in}
use Rattle.qq_node_log.specs.declared.node_log.NodeLog.{NodeLog}
use Rattle.qq_node_log.specs.declared.node_log.NodeLog.TheVariants.{Closed}
use Rattle.qq_route.specs.declared.queue_row.QueueRow.{QueueRow}
use Rattle.qq_cluster.specs.Setting.{ids_on}
use Rattle.qq_cluster.specs.declared.node.Node.{Node}

-- ---- new nodes

-- a node of this number that has no disk yet
pub record IsBareNode {D : Type 0} (rows : List QueueRow) (k : ℕ) (node : Node D) : Type 0 where
  pub id_is : node.id.0 ≡ k
  pub up_is : node.up ≡ false
  pub empty_is : node.empty ≡ false
  pub queues_are : node.queues.items ≡ ids_on rows k

-- so many of them, in order
pub record AreBareNodes {D : Type 0} (rows : List QueueRow) (count : ℕ) (nodes : List (Node D)) : Type 0 where
  pub many : length nodes ≡ count
  pub each : (at : ℕ) (node : Node D) → slice_get nodes at ≡ Some node → IsBareNode rows (at + 1) node

-- ---- the disks

-- a node gets a disk, and is the same else
abbrev pub GetsDisk : {D : Type 0} → D → Node D → Node D → Type 0
GetsDisk disk old new = new ≡ record old { log = Some (Closed disk) }

-- each node gets its disk, in order
pub record GetDisks {D : Type 0} (disks : List D) (olds news : List (Node D)) : Type 0 where
  pub many : length disks ≡ length olds
  pub count : length news ≡ length olds
  pub each : (at : ℕ) (disk : D) (old new : Node D) → slice_get disks at ≡ Some disk → slice_get olds at ≡ Some old
      → slice_get news at ≡ Some new → GetsDisk disk old new

-- a node gives up the disk in its log, and is the same else
pub record GivesDisk {D : Type 0} (old new : Node D) (disk : D) : Type 0 where
  pub own : NodeLog D
  pub was : old.log ≡ Some own
  pub is : new ≡ record old { log = None }
  pub disk_is : disk ≡ disk_in own

-- each node gives its disk up, in order
pub record GiveDisks {D : Type 0} (olds news : List (Node D)) (disks : List D) : Type 0 where
  pub many : length disks ≡ length olds
  pub count : length news ≡ length olds
  pub each : (at : ℕ) (disk : D) (old new : Node D) → slice_get disks at ≡ Some disk → slice_get olds at ≡ Some old
      → slice_get news at ≡ Some new → GivesDisk old new disk
