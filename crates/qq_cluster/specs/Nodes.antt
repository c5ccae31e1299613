-- Nodes as their calls see them: which cluster they stand for, and what a call has done.
use Rattle.std.specs.Prelude.{◌≡◌, ◌<◌, ◌≤◌, ◌+◌, ℕ, zero, suc, true, false, List, [], ◌++◌, Option, Some, None, IsTrue, drop, length, slice_get}
use Rattle.std.specs.List.{AllByRecursion, range_with_len}
use Rattle.qq_base.specs.declared.ids.NodeId.{NodeId}
use Rattle.qq_base.specs.declared.ids.QueueId.{QueueId}
use Rattle.qq_base.specs.declared.memory.Memory.{Memory}
use Rattle.qq_base.specs.declared.memory.Memory.TheVariants.{Spent}
use Rattle.qq_disk.specs.Disk.{now}
use Rattle.qq_disk.specs.Facts.{DiskFacts}
use Rattle.qq_cluster_model.specs.Cluster.{Cluster, ClusterEvent, Setup, members}
use Rattle.qq_cluster_model.specs.ClusterLaws.{HasGroups}
use Rattle.qq_cluster_model.specs.Outcome.{Outcome}
use Rattle.qq_cluster_model.specs.Rules.{ForEach, is_quiet}
use Rattle.qq_cluster_laws.specs.Linked.{IsReached, MembersFollow, lot_of, parts_at}
use Rattle.qq_cluster_laws.specs.Waiting.{HasOwnGroups, all_waiting}
use Rattle.qq_queue.specs.ClusterQueue.{Stands as IsQueue}
use Rattle.qq_queue.specs.Members.{AreSound}
use Rattle.qq_queue.specs.Sessions.{Standings, standings}
use Rattle.qq_queue.specs.declared.cluster_queue.ClusterQueue.{ClusterQueue}
use Rattle.qq_node_log.specs.Batches.{HasLongLog}
use Rattle.qq_node_log.specs.Log.{Stands as IsLog, disk_in}
use Rattle.qq_node_log.specs.Syncing.{HasLastLog}
use Rattle.qq_node_log.specs.declared.node_log.NodeLog.{NodeLog}
use Rattle.qq_log.specs.declared.limits.TheConstants.{NODE_LIMIT}
use Rattle.qq_lots.specs.Lots.{ids_of, new_part}
use Rattle.qq_raft_protocol.specs.Facts.{In}
use Rattle.qq_cluster_laws.specs.Serves.{GivesUp, Leads, Seen, Serves, seen_of}
use Rattle.qq_cluster.specs.Active.{is_in}
use Rattle.qq_cluster.specs.Ends.{HasLog, IsAtEnd, IsRefusedAt}
use Rattle.qq_queue.specs.declared.event.QueueEvent.{QueueEvent}
use Rattle.qq_cluster.specs.declared.node.Node.{Node}
use Rattle.qq_cluster.specs.declared.nodes.Nodes.{Nodes as Held}

-- ---- the disks

-- what a clause sees of a node's disk; where there is no log, or no such node, it sees nothing
abbrev pub seen_log : {D : Type 0} → DiskFacts D → Option (NodeLog D) → Seen
seen_log facts None = record { tells = false; past = []; faults = 0 }
seen_log facts (Some log) = seen_of facts (disk_in log)

abbrev pub seen_in : {D : Type 0} → DiskFacts D → Option (Node D) → Seen
seen_in facts None = record { tells = false; past = []; faults = 0 }
seen_in facts (Some node) = seen_log facts node.log

-- nodes are numbered from 1
abbrev pub node_at : {D : Type 0} → ℕ → List (Node D) → Option (Node D)
node_at zero nodes = None
node_at (suc at) nodes = slice_get nodes at

abbrev pub seen : {D : Type 0} → DiskFacts D → Held D → ℕ → Seen
seen facts held k = seen_in facts (node_at k held.nodes.items)

-- ---- the cluster

-- Each queue begins with a group of its own. Places and nodes are numbered from 1, a queue's id is its
-- place, and its members are among the nodes.
pub record IsSetUp (setup : Setup) (queue_count node_count : ℕ) : Type 0 where
  pub groups : HasGroups setup
  pub own : HasOwnGroups setup
  pub first : setup.first ≡ 1
  pub places : setup.places ≡ range_with_len 1 queue_count
  pub nodes : setup.nodes ≡ range_with_len 1 node_count
  pub ids : (place : ℕ) → In place setup.places → (setup.args place).queue.0 ≡ place
  pub among : (place : ℕ) → In place setup.places
      → AllByRecursion (λ (n : NodeId). In n.0 setup.nodes) (members setup place)

-- a queue is the one at a place, and as it stands there
pub record IsQueueOf (setup : Setup) (sessions : Standings) (c : Cluster) (place : ℕ) (d : ClusterQueue) : Type 0 where
  pub stands : IsQueue sessions d (c.queue place)
  pub sound : AreSound d.group
  pub name_is : d.name ≡ setup.name place
  pub place_is : d.args.queue.0 ≡ place

-- A node is the one of this number, and as it stands there. Where it is marked as empty it is down, and its log has nothing of
-- its queues.
pub record IsNodeOf {D : Type 0} (facts : DiskFacts D) (setup : Setup) (c : Cluster) (k : ℕ)
    (node : Node D) : Type 0 where
  pub id_is : node.id.0 ≡ k
  pub few : k ≤ NODE_LIMIT
  pub up_is : node.up ≡ c.up k
  pub fresh : node.empty ≡ true → (node.up ≡ false) × (parts_at c k ≡ (λ (place : ℕ). new_part))
  pub queues_are : node.queues.items ≡ ids_of (lot_of setup k)
  pub members : MembersFollow setup c k
  pub own : NodeLog D
  pub log_is : node.log ≡ Some own
  pub log : IsLog facts (lot_of setup k) (parts_at c k) (c.up k) own

-- They stand for a cluster of this setup: its queues and its nodes in their order. Each queue that isn't active is quiet.
pub record Stands {D : Type 0} (facts : DiskFacts D) (setup : Setup) (held : Held D) (c : Cluster) : Type 0 where
  pub set_up : IsSetUp setup (length held.queues.items) (length held.nodes.items)
  pub queues : (at : ℕ) (d : ClusterQueue) → slice_get held.queues.items at ≡ Some d
      → IsQueueOf setup (standings held.sessions) c (at + 1) d
  pub nodes : (at : ℕ) (node : Node D) → slice_get held.nodes.items at ≡ Some node
      → IsNodeOf facts setup c (at + 1) node
  pub auto : held.auto ≡ c.auto
  pub within : AllByRecursion (λ (at : ℕ). at < length held.queues.items) held.active
  pub quiet : (at : ℕ) → at < length held.queues.items → is_in at held.active ≡ false
      → is_quiet setup c.up (c.queue (at + 1)) ≡ true

-- they stand for a cluster that something may have led to
abbrev pub CanServe : {D : Type 0} → DiskFacts D → Held D → Type 0
CanServe facts held = (setup : Setup) × (c : Cluster) × IsReached setup c × Stands facts setup held c

-- ---- the nodes' logs

abbrev pub EachHasLog : {D : Type 0} → List (Node D) → Type 0
EachHasLog {D} nodes =
    (at : ℕ) (node : Node D) → slice_get nodes at ≡ Some node → (own : NodeLog D) × (node.log ≡ Some own)

-- these are the nodes of a setup, and each has its log
pub record HaveLogs {D : Type 0} (setup : Setup) (nodes : List (Node D)) : Type 0 where
  pub nodes_are : setup.nodes ≡ range_with_len 1 (length nodes)
  pub each : EachHasLog nodes

-- a node that is there
abbrev pub IsNodeAt : {D : Type 0} → NodeId → Held D → Type 0
IsNodeAt node held = (0 < node.0) × (node.0 ≤ length held.nodes.items)

-- a queue that is there
abbrev pub IsQueueAt : {D : Type 0} → QueueId → Held D → Type 0
IsQueueAt queue held = (0 < queue.0) × (queue.0 ≤ length held.queues.items)

-- ---- what a call has done

-- of whatever cluster they stood for, what has happened is what a rule allows there, and they stand for the cluster after it
pub record Served {D : Type 0} (facts : DiskFacts D) (Rule : Setup → Cluster → List ClusterEvent → Type 0)
    (old new : Held D) (before later : Outcome) : Type 0 where
  pub serves : (setup : Setup) (c : Cluster) → IsReached setup c → Stands facts setup old c
      → Serves setup c (Rule setup c) (Stands facts setup new) (seen facts old) (seen facts new) before later

-- ---- what a call leaves that is given up

-- events with which those may begin that a rule allows
pub record Begins (Allows : Cluster → List ClusterEvent → Type 0) (c : Cluster) (events : List ClusterEvent) : Type 0
  where
    pub rest : List ClusterEvent
    pub allowed : Allows c (events ++ rest)

-- What the number is of: a queue that refuses what is asked of it; or a node's log, on whose disk a file is too long with
-- the first of the ops that wait there, or has the last number that there is.
pub data NumberAt {D : Type 0} (facts : DiskFacts D) (held : Held D) (number : ℕ) : Type 0 where
  InQueue : (at : ℕ) (event : QueueEvent) → IsRefusedAt event at held.queues.items (Spent number)
      → NumberAt facts held number
  InFile : (at : ℕ) (own : NodeLog D) → HasLog at held own
      → ((setup : Setup) (c : Cluster) → IsReached setup c → Stands facts setup held c
      → IsTrue (facts.tells (disk_in own))
      → HasLongLog number (all_waiting setup c (at + 1)) (now (facts.past (disk_in own))))
      → NumberAt facts held number
  InNumbers : (at : ℕ) (own : NodeLog D) → HasLog at held own
      → (IsTrue (facts.tells (disk_in own)) → HasLastLog number (now (facts.past (disk_in own))))
      → NumberAt facts held number

-- In the midst of what a rule allows a number would have to rise, and stands at its end: some first events have
-- happened, and nodes that stand for the cluster after them have it. Each one's disk is what these events made of it.
pub record EndsAt {D : Type 0} (facts : DiskFacts D) (setup : Setup) (Allows : Cluster → List ClusterEvent → Type 0)
    (old : Held D) (c : Cluster) (number : ℕ) : Type 0 where
  pub mid : Held D
  pub before : Outcome
  pub said : Outcome
  pub serves : Serves setup c (Begins Allows c) (Stands facts setup mid) (seen facts old) (seen facts mid) before said
  pub at : NumberAt facts mid number
  pub end : IsAtEnd number

-- Of whatever cluster they stood for, each disk keeps at each moment what the events so far promised, and is still in
-- its node's log. Where it isn't that there was no memory, a number stands at its end.
pub record GaveUp {D : Type 0} (facts : DiskFacts D) (Rule : Setup → Cluster → List ClusterEvent → Type 0)
    (old new : Held D) (memory : Memory) : Type 0 where
  pub gives_up : (setup : Setup) (c : Cluster) → IsReached setup c → Stands facts setup old c
      → GivesUp setup c (seen facts old) (seen facts new)
  pub logs : (setup : Setup) (c : Cluster) → IsReached setup c → Stands facts setup old c
      → HaveLogs setup new.nodes.items
  pub spent : (number : ℕ) → memory ≡ Spent number → (setup : Setup) (c : Cluster) → IsReached setup c
      → Stands facts setup old c → EndsAt facts setup (Rule setup) old c number

-- ---- loops

-- the first so many of a list were served, of a rule for each
abbrev pub LeadsIn : (Setup → List ℕ) → ℕ → (Setup → ℕ → Cluster → List ClusterEvent → Type 0) → Setup → Cluster
    → List ClusterEvent → Type 0
LeadsIn list at Each setup c =
    Leads (ForEach (drop at (list setup)) (Each setup)) (ForEach (list setup) (Each setup)) c

abbrev pub places_in : Setup → List ℕ
places_in setup = setup.places

abbrev pub nodes_in : Setup → List ℕ
nodes_in setup = setup.nodes
