-- What stands while nodes are opened: what was read of the first of them, and what the cluster is where that turns
-- out to support an audit.
use Rattle.qq_cluster_model.specs.Outcome.{Outcome}
use Rattle.std.specs.Prelude.{◌≡◌, ◌<◌, ◌≤◌, ◌+◌, ℕ, Bool, true, false, not, List, [], Option, Some, None, Ok, Contains, IsTrue, is_some, length, map, slice_get, take}
use Rattle.std.specs.List.{range_with_len}
use Rattle.qq_base.specs.Causes.{Rose}
use Rattle.qq_base.specs.declared.ids.QueueId.{QueueId}
use Rattle.qq_base.specs.declared.memory.Memory.TheVariants.{Want}
use Rattle.qq_disk.specs.Disk.{now}
use Rattle.qq_disk.specs.Facts.{DiskFacts}
use Rattle.qq_entry.specs.declared.command.Entry.{Entry}
use Rattle.qq_group.specs.Group.{server_at}
use Rattle.qq_log.specs.Stable.{Stable, known_entries, new_state, no_snapshot, stable}
use Rattle.qq_log.specs.declared.op.Op.{Op}
use Rattle.qq_lots.specs.Kept.{KeepsPromised}
use Rattle.qq_lots.specs.Left.{AllBetween, state_in}
use Rattle.qq_lots.specs.Lots.{Lot, Parts, ids_of}
use Rattle.qq_node_log.specs.Steps.{AlwaysKeeps}
use Rattle.qq_node_log.specs.declared.node_log.NodeLog.{NodeLog}
use Rattle.qq_raft_model.specs.Group.{Group as GroupState}
use Rattle.qq_raft_model.specs.Promises.{IsOpened}
use Rattle.qq_raft_protocol.specs.Facts.{In}
use Rattle.qq_recover.specs.Reading.{lanes_read, shown}
use Rattle.qq_route.specs.declared.queue_row.QueueRow.{QueueRow}
use Rattle.qq_wal_chain.specs.Lanes.{Lanes}
use Rattle.qq_cluster_model.specs.Cluster.{Cluster, ClusterEvent, Setup, new_cluster}
use Rattle.qq_cluster_model.specs.ClusterLaws.{HasGroups, findings}
use Rattle.qq_cluster_model.specs.Rules.{ForEach, IsRestart}
use Rattle.qq_cluster_laws.specs.Serves.{Seen, Serves, fails_at}
use Rattle.qq_queue.specs.Agreeing.{BeginsWith, HasItsLogs}
use Rattle.qq_queue.specs.Members.{AreSound, Member}
use Rattle.qq_queue.specs.declared.cluster_queue.ClusterQueue.{ClusterQueue}
use Rattle.qq_cluster.specs.Logs.{NodeTurns}
use Rattle.qq_cluster.specs.Nodes.{Stands, seen}
use Rattle.qq_cluster.specs.Setting.{ids_on, is_among}
use Rattle.qq_cluster.specs.declared.node.Node.{Node}
use Rattle.qq_cluster.specs.declared.nodes.Nodes.{Nodes as Held}
use Rattle.qq_opening.specs.Opening.{AreLogsOf, AreReadLogs, HaveRestarted, IsSetupWith, Logs, state_read, told_of}
use Rattle.qq_opening.specs.declared.restarting.RestartFault.{RestartFault}
use Rattle.qq_opening.specs.declared.restarting.RestartFault.TheVariants.{Damaged, Version, Lost, Memory}

-- ---- the rule

-- of one of these nodes something was found that was down; or of each that was down the disk has failed
abbrev pub Found : Bool → List ℕ → Cluster → List ClusterEvent → Type 0
Found true list c events = findings events ≡ [] → ⊥
Found false list c events = (k : ℕ) → In k list → c.up k ≡ false → fails_at k events ≡ true

-- the first so many nodes were restarted
abbrev pub FirstTo : ℕ → Setup → Cluster → List ClusterEvent → Type 0
FirstTo at setup c events = ForEach (take at setup.nodes) (IsRestart setup) c events

-- and some of them was down and is up, or of each that was down the disk has failed
abbrev pub RestartedTo : ℕ → Bool → Setup → Cluster → List ClusterEvent → Type 0
RestartedTo at some setup c events = FirstTo at setup c events × Found some (take at setup.nodes) c events

-- ---- a disk

-- a state that ops may come to, as far as its lane tells
pub record IsOfOpsState (s : Stable) : Type 0 where
  pub base : s.base ≡ no_snapshot
  pub segments : s.segments ≡ []
  pub known : s.log ≡ map Some (known_entries s.log)
  pub unused : s.op ≡ 0 → told_of s ≡ new_state

-- what was read of a disk's queues, or that it has failed
abbrev pub IsRead : List QueueId → (a b : Seen) → Option Lanes → Type 0
IsRead ids a b None = Rose a.faults b.faults
IsRead ids a b (Some lanes) =
    (IsTrue a.tells → lanes_read ids (shown (now a.past)) ≡ Ok lanes)
    × (IsTrue a.tells → (lot : Lot) (parts : Parts) → ids ≡ ids_of lot → KeepsPromised lot parts (now a.past)
    → AllBetween lot parts lanes)
    × ((id : QueueId) → In id ids → IsOfOpsState (state_in lanes id))

-- A disk was read, or has failed. It tells as before, and whatever it kept of a promise it keeps at each moment.
pub record WasRead (ids : List QueueId) (a b : Seen) (lanes : Option Lanes) : Type 0 where
  pub told : b.tells ≡ a.tells
  pub rises : a.faults ≤ b.faults
  pub keeps : IsTrue a.tells → (lot : Lot) (parts : Parts) → ids ≡ ids_of lot → KeepsPromised lot parts (now a.past)
      → AlwaysKeeps lot parts a.past b.past
  pub read : IsRead ids a b lanes

-- ---- a queue

-- where something was read of a member's node, the member is up
abbrev pub IsUpWith : Option Lanes → Option Member → Type 0
IsUpWith None server = Unit {0}
IsUpWith (Some lanes) server = is_some server ≡ true

-- A row's queue: its members on the first so many nodes went on with what was read of these, and the others are down.
pub record IsOpenedQueue (row : QueueRow) (lanes : ℕ → Option Lanes) (at : ℕ) (d : ClusterQueue) : Type 0 where
  pub sound : AreSound d.group
  pub args_is : d.args ≡ row.args
  pub nodes_is : d.group.nodes.items ≡ row.members
  pub begins : (logs : ℕ → List Op)
      → ((k : ℕ) → 0 < k → k ≤ at → is_among k row.members ≡ true
      → stable (logs k) ≡ Some (state_read (lanes k) row.args.queue)) → BeginsWith logs d
  pub up : (k : ℕ) → 0 < k → k ≤ at → is_among k row.members ≡ true → IsUpWith (lanes k) (server_at k d.group)
  pub down : (k : ℕ) → at < k → server_at k d.group ≡ None

-- ---- the nodes

-- a node that was opened: it is up where something was read of it, and else its log is empty
pub record IsOpenedNode {D : Type 0} (rows : List QueueRow) (k : ℕ) (lanes : Option Lanes) (own : Node D) : Type 0 where
  pub id_is : own.id.0 ≡ k
  pub up_is : own.up ≡ is_some lanes
  pub empty_is : own.empty ≡ not (is_some lanes)
  pub queues_are : own.queues.items ≡ ids_on rows k
  pub has_log : (log : NodeLog D) × (own.log ≡ Some log)

-- the first so many nodes were opened, and the others are as they were
pub record AreOpened {D : Type 0} (facts : DiskFacts D) (rows : List QueueRow) (at : ℕ)
    (old held : Held D) : Type 0 where
  pub lanes : ℕ → Option Lanes
  pub same : held ≡ record old { queues = held.queues; nodes = held.nodes }
  pub node_count : length held.nodes.items ≡ length old.nodes.items
  pub queue_count : length held.queues.items ≡ length old.queues.items
  pub left : (i : ℕ) → at ≤ i → slice_get held.nodes.items i ≡ slice_get old.nodes.items i
  pub opened : (i : ℕ) (own : Node D) → i < at → slice_get held.nodes.items i ≡ Some own
      → IsOpenedNode rows (i + 1) (lanes (i + 1)) own
  pub queues : (i : ℕ) (row : QueueRow) (d : ClusterQueue) → slice_get rows i ≡ Some row
      → slice_get held.queues.items i ≡ Some d → IsOpenedQueue row lanes at d
  pub disks : (k : ℕ) → 0 < k → k ≤ at
      → WasRead (ids_on rows k) (seen facts old k) (seen facts held k) (lanes k)

-- ---- the cluster

-- over logs that support an audit, and are what was read
pub record OpenedServes {D : Type 0} (facts : DiskFacts D) (setup : Setup) (at : ℕ) (lanes : ℕ → Option Lanes)
    (some : Bool) (old held : Held D) (before later : Outcome) : Type 0 where
  pub serves : Serves setup (new_cluster setup) (RestartedTo at some setup (new_cluster setup))
      (Stands facts setup held) (seen facts old) (seen facts held) before later
  pub came : HaveRestarted (range_with_len 1 at) lanes serves.did.events

pub record OpenedTo {D : Type 0} (facts : DiskFacts D) (rows : List QueueRow) (at : ℕ) (some : Bool) (old held : Held D)
    (before later : Outcome) : Type 0 where
  pub opened : AreOpened facts rows at old held
  pub serves : (logs : Logs) (setup : Setup) → IsSetupWith setup rows (length old.nodes.items) logs → HasGroups setup
      → AreLogsOf rows logs → AreReadLogs rows (range_with_len 1 at) opened.lanes logs
      → OpenedServes facts setup at opened.lanes some old held before later

-- a node is marked as empty where it is down
abbrev pub IsMarked : {D : Type 0} → ℕ → (up : Bool) → (old held : Held D) → Type 0
IsMarked {D} at true old held =
    (held ≡ old) × ((own : Node D) → slice_get old.nodes.items at ≡ Some own → own.up ≡ true)
IsMarked {D} at false old held =
    NodeTurns (λ (x y : Node D). y ≡ record x { up = false; empty = true }) at old.nodes.items held.nodes.items
    × (held ≡ record old { nodes = held.nodes })
    × ((own : Node D) → slice_get old.nodes.items at ≡ Some own → own.up ≡ false)

-- ---- whether logs agree

-- the logs that a queue's members went on with support an audit, or none
abbrev pub Agrees : ClusterQueue → Type 0
Agrees d = (g : GroupState) → HasItsLogs d g → IsOpened g []

abbrev pub Disagrees : ClusterQueue → Type 0
Disagrees d = (g : GroupState) (whole : List Entry) → HasItsLogs d g → IsOpened g whole → ⊥

-- the queue at an index is lost, as a node tells that is up and has a member of it
pub record IsLostAt {D : Type 0} (at : ℕ) (held : Held D) (node : ℕ) (queue : QueueId) (found : ℕ) : Type 0 where
  pub index : ℕ
  pub own : Node D
  pub here : slice_get held.nodes.items index ≡ Some own
  pub up : own.up ≡ true
  pub id_is : own.id.0 ≡ node
  pub among : Contains own.queues.items queue
  pub place : queue.0 ≡ at + 1
  pub found_is : (d : ClusterQueue) (logs : ℕ → List Op) → slice_get held.queues.items at ≡ Some d → BeginsWith logs d
      → is_some (server_at node d.group) ≡ true → found ≡ length (logs node)

abbrev pub TellsLost : {D : Type 0} → ℕ → Held D → RestartFault → Type 0
TellsLost at held (Damaged node file place) = ⊥
TellsLost at held (Version node file byte) = ⊥
TellsLost at held (Lost node queue noticed found) = (noticed ≡ 0) × IsLostAt at held node.0 queue found
TellsLost at held (Memory memory) = memory ≡ Want
