-- What an event of a node's log makes of the queues.
use Rattle.std.specs.Prelude.{◌≡◌, ◌+◌, ◌-◌, ℕ, Bool, true, false, List, ◌++◌, Some, All, length, nat_lt, slice_get, slice_set}
use Rattle.std.specs.List.{flat_map}
use Rattle.qq_disk.specs.Facts.{DiskFacts}
use Rattle.qq_log.specs.Writable.{MayWrite}
use Rattle.qq_log.specs.declared.op.Op.{Op}
use Rattle.qq_cluster_model.specs.Cluster.{Cluster, Setup}
use Rattle.qq_cluster_model.specs.Queue.{Event, Stops, Writes}
use Rattle.qq_cluster_laws.specs.Waiting.{ops_waiting}
use Rattle.qq_queue.specs.ClusterQueue.{Becomes, IsSameQueue, OfItsQueue, waiting_ops}
use Rattle.qq_queue.specs.Members.{AreSound}
use Rattle.qq_queue.specs.declared.cluster_queue.ClusterQueue.{ClusterQueue}
use Rattle.qq_cluster.specs.Active.{AreRising, is_in}
use Rattle.qq_cluster.specs.Logs.{NodeTurns}
use Rattle.qq_cluster.specs.Nodes.{Stands}
use Rattle.qq_cluster.specs.declared.node.Node.{Node}
use Rattle.qq_cluster.specs.declared.nodes.Nodes.{Nodes as Held}

-- an event has happened to a queue, and shows nothing
pub record Turns (event : Event) (old new : ClusterQueue) : Type 0 where
  pub sound : AreSound new.group
  pub same : IsSameQueue old new
  pub becomes : Becomes event old new

-- to the one at an index
pub record TurnsAt (event : Event) (at : ℕ) (olds news : List ClusterQueue) : Type 0 where
  pub old : ClusterQueue
  pub new : ClusterQueue
  pub here : slice_get olds at ≡ Some old
  pub is : news ≡ slice_set olds at new
  pub turns : Turns event old new

-- to those at the indexes that pass a test; the others are as they were
pub record TurnsWhere (test : ℕ → Bool) (event : Event) (olds news : List ClusterQueue) : Type 0 where
  pub many : length news ≡ length olds
  pub own : (at : ℕ) (old new : ClusterQueue) → slice_get olds at ≡ Some old → slice_get news at ≡ Some new
      → test at ≡ true → Turns event old new
  pub others : (at : ℕ) → test at ≡ false → slice_get news at ≡ slice_get olds at

-- to the active ones
pub record HasTurned {D : Type 0} (event : Event) (old new : Held D) : Type 0 where
  pub same : new ≡ record old { queues = new.queues }
  pub rising : AreRising old.active
  pub turns : TurnsWhere (λ at. is_in at old.active) event old.queues.items new.queues.items

-- what waits at a node of the queue at an index went behind these ops
abbrev pub TakesAt : ℕ → ℕ → List ClusterQueue → List Op → List Op → Type 0
TakesAt k at queues before later =
    (d : ClusterQueue) → slice_get queues at ≡ Some d
    → OfItsQueue d (λ q. later ≡ before ++ waiting_ops (q.group.seat k).server)

-- each active queue has handed out what waits at a node, in their order
pub record HasTaken {D : Type 0} (facts : DiskFacts D) (k : ℕ) (old new : Held D) (ops : List Op) : Type 0 where
  pub turned : HasTurned (Writes k) old new
  pub may : All MayWrite ops
  pub taken : (setup : Setup) (c : Cluster) → Stands facts setup old c
      → ops ≡ flat_map (λ (at : ℕ). ops_waiting k (c.queue (at + 1))) old.active

-- a node is down from here on, and so are its members
pub record HasStopped {D : Type 0} (k : ℕ) (old new : Held D) : Type 0 where
  pub same : new ≡ record old { queues = new.queues; nodes = new.nodes }
  pub queues : TurnsWhere (λ at. nat_lt at (length old.queues.items)) (Stops k) old.queues.items new.queues.items
  pub nodes : NodeTurns (λ (d e : Node D). e ≡ record d { up = false }) (k - 1) old.nodes.items new.nodes.items
