-- Nodes are opened over disks that may hold the logs of an earlier run: what they read, and over which logs the
-- cluster begins.
use Rattle.qq_cluster_model.specs.Outcome.{Outcome}
use Rattle.std.specs.Prelude.{◌≡◌, ◌⊎◌, ◌<◌, ◌+◌, ◌-◌, ◌++◌, ◌∷◌, ℕ, Bool, true, false, List, [], Option, Some, None, Ok, Err, Contains, IsTrue, is_some, length, slice_get}
use Rattle.std.specs.List.{AllByRecursion, range_with_len}
use Rattle.qq_base.specs.Causes.{Rose}
use Rattle.qq_base.specs.declared.ids.NodeId.{NodeId}
use Rattle.qq_base.specs.declared.ids.QueueId.{QueueId}
use Rattle.qq_base.specs.declared.memory.Memory.TheVariants.{Want, Spent}
use Rattle.qq_disk.specs.Disk.{now}
use Rattle.qq_disk.specs.Facts.{DiskFacts}
use Rattle.qq_log.specs.Stable.{Stable, new_state, stable}
use Rattle.qq_log.specs.declared.op.Op.{Op}
use Rattle.qq_lots.specs.Left.{state_in}
use Rattle.qq_raft_model.specs.Group.{Seat}
use Rattle.qq_raft_protocol.specs.Facts.{In}
use Rattle.qq_recover.specs.Reading.{lanes_read, shown}
use Rattle.qq_recover.specs.declared.fault.RecoverFault.{RecoverFault}
use Rattle.qq_recover.specs.declared.fault.RecoverFault.TheVariants as recover_faults
use Rattle.qq_route.specs.declared.queue_row.QueueRow.{QueueRow}
use Rattle.qq_wal_chain.specs.Lanes.{Lanes}
use Rattle.qq_cluster_model.specs.Cluster.{ClusterEvent, Setup, cluster_after, members, new_cluster}
use Rattle.qq_cluster_model.specs.ClusterLaws.{HasGroups}
use Rattle.qq_cluster_model.specs.Laws.{IsBegun}
use Rattle.qq_cluster_model.specs.Rules.{ForEach, IsOpening, IsRestart}
use Rattle.qq_cluster_laws.specs.Restarts.{first_restart}
use Rattle.qq_cluster_laws.specs.Serves.{GivesUp, Serves}
use Rattle.qq_cluster_laws.specs.Waiting.{HasOwnGroups, IsChangeOf}
use Rattle.qq_cluster.specs.Nodes.{EachHasLog, EndsAt, Stands, seen}
use Rattle.qq_cluster.specs.Setting.{IsRowOf, ids_on, is_among}
use Rattle.qq_cluster.specs.declared.nodes.Nodes.{Nodes as Held}
use Rattle.qq_opening.specs.Restarting.{AreLinked, IsOfMemory, IsOpenedTo}
use Rattle.qq_opening.specs.declared.restarting.RestartFault.{RestartFault}
use Rattle.qq_opening.specs.declared.restarting.RestartFault.TheVariants.{Damaged, Version, Lost, Memory}

-- ---- a cluster over logs

-- the ops of each queue that each node's log holds as a run begins, by the queue's place and the node
abbrev pub Logs : Type 0
Logs = ℕ → ℕ → List Op

-- a member that is down, and all of whose ops are durable
abbrev pub seat_over : List Op → Seat
seat_over ops = record { server = None; ops = ops; noticed = length ops }

-- So many nodes, and a queue for each row, in their order; each queue's members are down, and have these logs, which
-- need not support an audit.
pub record IsSetupWith (setup : Setup) (rows : List QueueRow) (node_count : ℕ) (logs : Logs) : Type 0 where
  pub places : setup.places ≡ range_with_len 1 (length rows)
  pub nodes : setup.nodes ≡ range_with_len 1 node_count
  pub first : setup.first ≡ 1
  pub ids : (place : ℕ) → In place setup.places → (setup.args place).queue.0 ≡ place
  pub among : (place : ℕ) → In place setup.places
      → AllByRecursion (λ (n : NodeId). In n.0 setup.nodes) (members setup place)
  pub own : HasOwnGroups setup
  pub each : (at : ℕ) (row : QueueRow) → slice_get rows at ≡ Some row → IsRowOf setup (at + 1) row
  pub seats : (place k : ℕ) → (setup.group place).seat k ≡ seat_over (logs place k)
  pub others : (place : ℕ) → (In place setup.places → ⊥) → IsBegun (setup.group place)

-- each row's logs hold changes of its queue alone, and whoever isn't a member of a row has none
pub record AreLogsOf (rows : List QueueRow) (logs : Logs) : Type 0 where
  pub own : (at k : ℕ) (row : QueueRow) → slice_get rows at ≡ Some row
      → AllByRecursion (IsChangeOf row.args.queue) (logs (at + 1) k)
  pub others : (place k : ℕ)
      → ((at : ℕ) (row : QueueRow) → place ≡ at + 1 → slice_get rows at ≡ Some row
      → is_among k row.members ≡ true → ⊥)
      → logs place k ≡ []

-- ---- what is read

-- A state as a lane tells it, which has no number of a snapshot's file. Where the state has no snapshot that number
-- is 0, but files may say otherwise.
abbrev pub told_of : Stable → Stable
told_of s = record s { snapshot = 0 }

-- a queue's state as it was read on a node, a new one where the node's disk has failed
abbrev pub state_read : Option Lanes → QueueId → Stable
state_read None id = new_state
state_read (Some lanes) id = told_of (state_in lanes id)

-- what recovery reads of a node's disk as it was at first, where that tells its contents, or that the disk has failed
abbrev pub IsReadAs : {D : Type 0} → DiskFacts D → List QueueRow → (old new : Held D) → ℕ
    → Option Lanes → Type 0
IsReadAs facts rows old new k None =
    Rose (seen facts old k).faults (seen facts new k).faults
IsReadAs facts rows old new k (Some lanes) =
    IsTrue (seen facts old k).tells → lanes_read (ids_on rows k) (shown (now (seen facts old k).past)) ≡ Ok lanes

-- and so of each of these nodes
pub record HasRead {D : Type 0} (facts : DiskFacts D) (rows : List QueueRow) (first : List ℕ)
    (old new : Held D) : Type 0 where
  pub lanes : ℕ → Option Lanes
  pub each : (k : ℕ) → In k first → IsReadAs facts rows old new k (lanes k)

-- logs are what was read of each of these nodes: the ops come to the state
abbrev pub AreReadLogs : List QueueRow → (first : List ℕ) → (ℕ → Option Lanes) → Logs → Type 0
AreReadLogs rows first lanes logs =
    (k at : ℕ) (row : QueueRow) → In k first → slice_get rows at ≡ Some row → is_among k row.members ≡ true
    → stable (logs (at + 1) k) ≡ Some (state_read (lanes k) row.args.queue)

-- these nodes' disks hold these logs
pub record HoldLogs {D : Type 0} (facts : DiskFacts D) (rows : List QueueRow) (first : List ℕ)
    (old new : Held D) : Type 0 where
  pub read : HasRead facts rows first old new
  pub logs : Logs
  pub own : AreLogsOf rows logs
  pub are : AreReadLogs rows first read.lanes logs

-- In these events each of these nodes is first recovered, where something was read of it; else its disk fails first.
abbrev pub HaveRestarted : List ℕ → (ℕ → Option Lanes) → List ClusterEvent → Type 0
HaveRestarted first lanes events = (k : ℕ) → In k first → first_restart k events ≡ Some (is_some (lanes k))

abbrev pub all_of : {D : Type 0} → Held D → List ℕ
all_of held = range_with_len 1 (length held.nodes.items)

-- ---- an opening

-- The cluster begins with logs that support an audit: it was opened, and the nodes stand for it.
pub record OpensTo {D : Type 0} (facts : DiskFacts D) (setup : Setup) (lanes : ℕ → Option Lanes) (some : Bool)
    (old new : Held D) (before later : Outcome) : Type 0 where
  pub groups : HasGroups setup
  pub serves : Serves setup (new_cluster setup) (IsOpenedTo some setup (new_cluster setup))
      (Stands facts setup new) (seen facts old) (seen facts new) before later
  pub came : HaveRestarted (all_of old) lanes serves.did.events

-- Nodes over disks that hold some logs were opened: of each setup with these logs.
pub record OpensOver {D : Type 0} (facts : DiskFacts D) (rows : List QueueRow) (some : Bool) (old new : Held D)
    (before later : Outcome) : Type 0 where
  pub hold : HoldLogs facts rows (all_of old) old new
  pub opens : (setup : Setup) → IsSetupWith setup rows (length old.nodes.items) hold.logs
      → OpensTo facts setup hold.read.lanes some old new before later

-- ---- why nodes aren't opened

-- those before a node were restarted, which then is down
pub record StopsBefore (setup : Setup) (first : List ℕ) (node : ℕ) (lanes : ℕ → Option Lanes) : Type 0 where
  pub events : List ClusterEvent
  pub restarted : ForEach first (IsRestart setup) (new_cluster setup) events
  pub down : (cluster_after (new_cluster setup) events).up node ≡ false
  pub came : HaveRestarted first lanes events

-- A node's files break the rules of a log, or are of another version, as recovery reads them of a disk that tells its
-- contents.
pub record IsRefusedOver {D : Type 0} (facts : DiskFacts D) (rows : List QueueRow) (old new : Held D) (node : ℕ)
    (fault : RecoverFault) : Type 0 where
  pub first : List ℕ
  pub later : List ℕ
  pub are : all_of old ≡ first ++ node ∷ later
  pub hold : HoldLogs facts rows first old new
  pub read : IsTrue (seen facts old node).tells
      → lanes_read (ids_on rows node) (shown (now (seen facts old node).past)) ≡ Err fault
  pub stops : (setup : Setup) → IsSetupWith setup rows (length old.nodes.items) hold.logs
      → StopsBefore setup first node hold.read.lanes

-- A queue's logs support no audit: whatever logs of it are as the nodes' disks were read so far, the queue may not
-- begin with them. One of them, that of a member on this node, has so many ops.
pub record IsLostOver {D : Type 0} (facts : DiskFacts D) (rows : List QueueRow) (old new : Held D) (node : NodeId)
    (queue : QueueId) (found : ℕ) : Type 0 where
  pub low : 0 < queue.0
  pub row : QueueRow
  pub here : slice_get rows (queue.0 - 1) ≡ Some row
  pub queue_is : row.args.queue ≡ queue
  pub member : Contains row.members node
  pub first : List ℕ
  pub later : List ℕ
  pub are : all_of old ≡ first ++ later
  pub among : In node.0 first
  pub read : HasRead facts rows first old new
  pub own : Lanes
  pub own_is : read.lanes node.0 ≡ Some own
  pub found_is : found ≡ (state_in own queue).op
  pub refused : (logs : Logs) (setup : Setup) → IsSetupWith setup rows (length old.nodes.items) logs
      → ((k : ℕ) → In k first → is_among k row.members ≡ true
      → stable (logs queue.0 k) ≡ Some (state_read (read.lanes k) queue))
      → IsBegun (setup.group queue.0) → ⊥

-- After the disks were read and the logs were found to support an audit, a number would have to rise, and stands at
-- its end.
pub record SpentAfter {D : Type 0} (facts : DiskFacts D) (rows : List QueueRow) (old new : Held D)
    (number : ℕ) : Type 0 where
  pub hold : HoldLogs facts rows (all_of old) old new
  pub ends : (setup : Setup) → IsSetupWith setup rows (length old.nodes.items) hold.logs
      → HasGroups setup × (e : EndsAt facts setup (IsOpening setup) old (new_cluster setup) number)
      × HaveRestarted (all_of old) hold.read.lanes e.serves.did.events

-- or it does so on a disk as it was given, where nothing has happened, whatever logs the cluster begins with
abbrev pub SpentOver : {D : Type 0} → DiskFacts D → List QueueRow → (old new : Held D)
    → (number : ℕ) → Type 0
SpentOver facts rows old new number =
    ((logs : Logs) (setup : Setup) → IsSetupWith setup rows (length old.nodes.items) logs → HasGroups setup
    → (e : EndsAt facts setup (IsOpening setup) old (new_cluster setup) number) × (e.serves.did.events ≡ []))
    ⊎ SpentAfter facts rows old new number

abbrev pub IsOpenCaused : {D : Type 0} → DiskFacts D → List QueueRow → (old new : Held D)
    → RestartFault → Type 0
IsOpenCaused facts rows old new (Damaged node file place) =
    IsRefusedOver facts rows old new node.0 (recover_faults.Damaged file place)
IsOpenCaused facts rows old new (Version node file byte) =
    IsRefusedOver facts rows old new node.0 (recover_faults.Version file byte)
IsOpenCaused facts rows old new (Lost node queue noticed found) =
    (noticed ≡ 0) × IsLostOver facts rows old new node queue found
IsOpenCaused facts rows old new (Memory Want) = Unit {0}
IsOpenCaused facts rows old new (Memory (Spent number)) =
    SpentOver facts rows old new number

-- At each moment of the call each disk keeps what was promised so far: whatever logs the cluster begins with, as long
-- as nothing but recoveries has happened; and then over the logs that the disks hold.
abbrev pub GivesUpOver : {D : Type 0} → DiskFacts D → List QueueRow → (old new : Held D)
    → Type 0
GivesUpOver facts rows old new =
    ((logs : Logs) (setup : Setup) → IsSetupWith setup rows (length old.nodes.items) logs
    → GivesUp setup (new_cluster setup) (seen facts old) (seen facts new))
    ⊎ ((hold : HoldLogs facts rows (all_of old) old new)
    × ((setup : Setup) → IsSetupWith setup rows (length old.nodes.items) hold.logs
    → GivesUp setup (new_cluster setup) (seen facts old) (seen facts new)))

-- What an opening leaves that is given up: each disk is still in its node's log. It is so for want of memory or numbers
-- alone, where logs support an audit, each node's disk tells its contents and is linked to them, and no disk fails but
-- those of nodes without a log.
pub record MayNotOpen {D : Type 0} (facts : DiskFacts D) (rows : List QueueRow) (old new : Held D)
    (fault : RestartFault) : Type 0 where
  pub cause : IsOpenCaused facts rows old new fault
  pub gives_up : GivesUpOver facts rows old new
  pub count : length new.nodes.items ≡ length old.nodes.items
  pub logs : EachHasLog new.nodes.items
  pub never : (logs : Logs) (setup : Setup) → IsSetupWith setup rows (length old.nodes.items) logs
      → HasGroups setup → AreLinked facts setup old (new_cluster setup) setup.nodes → ((k : ℕ) → In k setup.nodes
      → Rose (seen facts old k).faults (seen facts new k).faults
      → (place : ℕ) → In place setup.places → logs place k ≡ [])
      → IsOfMemory fault
