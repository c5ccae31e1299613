-- The ops that wait at a node for their write.
use Rattle.std.specs.Prelude.{◌≡◌, ◌≢◌, ℕ, List, [], ◌∷◌, ◌++◌, Option, Some, None}
use Rattle.std.specs.List.{AllByRecursion, flat_map}
use Rattle.qq_base.specs.declared.ids.QueueId.{QueueId}
use Rattle.qq_log.specs.declared.op.Op.{Op}
use Rattle.qq_log.specs.declared.op.Op.TheVariants.{Change, SnapshotMade, SegmentMade}
use Rattle.qq_lots.specs.Lots.{ops_at}
use Rattle.qq_raft_model.specs.Group.{Group}
use Rattle.qq_raft_model.specs.State.{Server}
use Rattle.qq_cluster_model.specs.Cluster.{Cluster, Setup}
use Rattle.qq_cluster_model.specs.Queue.{Queue}
use Rattle.qq_cluster_laws.specs.Linked.{lot_of}

-- ---- what waits

-- the ops that a server has handed out, and its log wasn't given
abbrev pub ops_by : Option Server → List Op
ops_by None = []
ops_by (Some s) = s.ops

abbrev pub ops_waiting : ℕ → Queue → List Op
ops_waiting k q = ops_by (q.group.seat k).server

-- those of all queues of a node's log, one queue's behind another's
abbrev pub all_waiting : Setup → Cluster → ℕ → List Op
all_waiting setup c k = flat_map (λ (place : ℕ). ops_waiting k (c.queue place)) (lot_of setup k).places

-- these are the ops that wait
abbrev pub AllWait : Setup → Cluster → ℕ → List Op → Type 0
AllWait setup c k ops =
    AllByRecursion (λ (place : ℕ). ops_at (lot_of setup k) place ops ≡ ops_waiting k (c.queue place))
    (lot_of setup k).places

-- what a queue's log was given on a node, and what waits behind that
abbrev pub ops_with_waiting : ℕ → Queue → List Op
ops_with_waiting k q = (q.group.seat k).ops ++ ops_waiting k q

-- ---- whose they are

-- no two of the queues have one number
abbrev pub AreApart : Setup → List ℕ → Type 0
AreApart setup [] = Unit {0}
AreApart setup (place ∷ places) =
    AllByRecursion (λ (other : ℕ). (setup.args other).queue.0 ≢ (setup.args place).queue.0) places
    × AreApart setup places

-- a change of this queue
abbrev pub IsChangeOf : QueueId → Op → Type 0
IsChangeOf id (Change own op term vote keep entries) = own ≡ id
IsChangeOf id (SnapshotMade own op head file) = ⊥
IsChangeOf id (SegmentMade own op file first last) = ⊥

-- the group is this queue's, and its logs hold changes of it alone
pub record IsGroupOf (id : QueueId) (g : Group) : Type 0 where
  pub queue : g.queue ≡ id
  pub ops : (k : ℕ) → AllByRecursion (IsChangeOf id) (g.seat k).ops

-- each queue begins with its own group
abbrev pub HasOwnGroups : Setup → Type 0
HasOwnGroups setup = (place : ℕ) → IsGroupOf (setup.args place).queue (setup.group place)
