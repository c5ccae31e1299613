-- The cluster with which nodes begin.
use Rattle.std.specs.Prelude.{◌≡◌, ◌<◌, ◌≤◌, ◌+◌, ◌^◌, ℕ, Bool, true, false, List, [], All, None, Some, filter, length, map, nat_eq, slice_get}
use Rattle.std.specs.List.{list_any}
use Rattle.qq_base.specs.declared.ids.NodeId.{NodeId}
use Rattle.qq_base.specs.declared.ids.QueueId.{QueueId}
use Rattle.qq_disk.specs.Facts.{DiskFacts}
use Rattle.qq_group.specs.Group.{server_at}
use Rattle.qq_group.specs.Opening.{IsAllDown}
use Rattle.qq_log.specs.declared.limits.TheConstants.{NODE_LIMIT}
use Rattle.qq_log.specs.declared.op.Op.{Op}
use Rattle.qq_raft_msg.specs.Rpc.{IsNode}
use Rattle.qq_route.specs.declared.queue_row.QueueRow.{QueueRow}
use Rattle.qq_cluster_model.specs.Cluster.{Setup}
use Rattle.qq_cluster_laws.specs.Serves.{seen_of}
use Rattle.qq_queue.specs.Agreeing.{BeginsWith}
use Rattle.qq_queue.specs.ClusterQueue.{Opens}
use Rattle.qq_queue.specs.Members.{AreSound}
use Rattle.qq_queue.specs.declared.cluster_queue.ClusterQueue.{ClusterQueue}
use Rattle.qq_node_log.specs.Log.{IsWhole as MayBeLog}
use Rattle.qq_node_log.specs.declared.node_log.NodeLog.TheVariants.{Closed}
use Rattle.qq_cluster.specs.Nodes.{IsSetUp, seen}
use Rattle.qq_cluster.specs.declared.node.Node.{Node}
use Rattle.qq_cluster.specs.declared.nodes.Nodes.{Nodes as Held}

-- a row whose members may be nodes
abbrev pub IsRow : QueueRow → Type 0
IsRow row = All IsNode row.members × (length row.members < 2 ^ 32)

-- the queue at a place is set up as a row says: its members are down, and nothing is on its way
pub record IsRowOf (setup : Setup) (place : ℕ) (row : QueueRow) : Type 0 where
  pub name_is : row.name ≡ setup.name place
  pub args_is : row.args ≡ setup.args place
  pub down : IsAllDown row.args.queue row.members [] (setup.group place)

-- so many nodes, and a queue for each row, in their order; each queue begins with logs that support an audit
pub record IsSetupOver (setup : Setup) (rows : List QueueRow) (node_count : ℕ) : Type 0 where
  pub set_up : IsSetUp setup (length rows) node_count
  pub each : (at : ℕ) (row : QueueRow) → slice_get rows at ≡ Some row → IsRowOf setup (at + 1) row

-- a disk that tells its contents may be recovered as the log of whatever queues, as a new one may be
abbrev pub IsWhole : {D : Type 0} → DiskFacts D → D → Type 0
IsWhole facts disk = (queues : List QueueId) → MayBeLog facts queues disk

-- each node has its disk, in their order
abbrev pub HaveDisks : {D : Type 0} → DiskFacts D → List D → Held D → Type 0
HaveDisks {D} facts disks held =
    (at : ℕ) (disk : D) → slice_get disks at ≡ Some disk
    → seen facts held (at + 1) ≡ seen_of facts disk

-- ---- how they are made

-- a queue is a row's, and its members are down; nothing is known of their logs
pub record IsQueueFor (row : QueueRow) (d : ClusterQueue) : Type 0 where
  pub sound : AreSound d.group
  pub opens : Opens row.args row.members d
  pub args_is : d.args ≡ row.args
  pub nodes_is : d.group.nodes.items ≡ row.members
  pub name_is : d.name ≡ row.name
  pub down : (k : ℕ) → server_at k d.group ≡ None
  pub begins : (logs : ℕ → List Op) → BeginsWith logs d

-- and so of each row, in order
pub record AreQueuesFor (rows : List QueueRow) (queues : List ClusterQueue) : Type 0 where
  pub count : length queues ≡ length rows
  pub each : (at : ℕ) (row : QueueRow) (d : ClusterQueue) → slice_get rows at ≡ Some row
      → slice_get queues at ≡ Some d → IsQueueFor row d

-- a node is one of these
abbrev pub is_among : ℕ → List NodeId → Bool
is_among k nodes = list_any (λ (node : NodeId). nat_eq node.0 k) nodes

-- the queues of which a node has a member
abbrev pub ids_on : List QueueRow → ℕ → List QueueId
ids_on rows k =
    map (λ (row : QueueRow). row.args.queue) (filter (λ (row : QueueRow). is_among k row.members) rows)

-- a node of this number that wasn't opened yet, with its disk
pub record IsNewNode {D : Type 0} (rows : List QueueRow) (k : ℕ) (disk : D) (node : Node D) : Type 0 where
  pub id_is : node.id.0 ≡ k
  pub up_is : node.up ≡ false
  pub empty_is : node.empty ≡ false
  pub queues_are : node.queues.items ≡ ids_on rows k
  pub log_is : node.log ≡ Some (Closed disk)

-- a node for each disk, in order
pub record AreNodesFor {D : Type 0} (rows : List QueueRow) (disks : List D) (nodes : List (Node D)) : Type 0 where
  pub count : length nodes ≡ length disks
  pub each : (at : ℕ) (disk : D) (node : Node D) → slice_get disks at ≡ Some disk
      → slice_get nodes at ≡ Some node → IsNewNode rows (at + 1) disk node

-- Nodes that weren't opened yet, over disks that may be recovered, and a queue for each row. There are logs over which these
-- may be opened.
pub record AreNew {D : Type 0} (facts : DiskFacts D) (rows : List QueueRow) (held : Held D) : Type 0
  where
    pub set : (setup : Setup) × IsSetupOver setup rows (length held.nodes.items)
    pub queues : AreQueuesFor rows held.queues.items
    pub disks : List D
    pub nodes : AreNodesFor rows disks held.nodes.items
    pub few : length disks ≤ NODE_LIMIT
    pub whole : All (IsWhole facts) disks
    pub sessions : held.sessions ≡ []
    pub active : held.active ≡ []
    pub auto : held.auto ≡ true
