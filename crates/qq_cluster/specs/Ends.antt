-- Which number of which part stands at its end, where a call is given up for it.
use Rattle.std.specs.Prelude.{◌≡◌, ◌⊎◌, ◌≤◌, ℕ, List, Some, slice_get}
use Rattle.qq_base.specs.declared.memory.Memory.{Memory}
use Rattle.qq_base.specs.declared.memory.TheConstants.{NUMBER_END}
use Rattle.qq_raft_msg.specs.declared.bag.TheConstants.{BAG_LIMIT}
use Rattle.qq_queue.specs.Events.{IsRefused}
use Rattle.qq_queue.specs.declared.cluster_queue.ClusterQueue.{ClusterQueue}
use Rattle.qq_node_log.specs.declared.node_log.NodeLog.{NodeLog}
use Rattle.qq_queue.specs.declared.event.QueueEvent.{QueueEvent}
use Rattle.qq_cluster.specs.declared.node.Node.{Node}
use Rattle.qq_cluster.specs.declared.nodes.Nodes.{Nodes as Held}

-- it is the end of a bag's length, or 2^63 or more, where all other numbers end
abbrev pub IsAtEnd : ℕ → Type 0
IsAtEnd number = (number ≡ BAG_LIMIT) ⊎ (NUMBER_END ≤ number)

-- the queue at an index refuses what is to happen to it
pub record IsRefusedAt (event : QueueEvent) (at : ℕ) (queues : List ClusterQueue) (e : Memory) : Type 0 where
  pub queue : ClusterQueue
  pub here : slice_get queues at ≡ Some queue
  pub caused : IsRefused event queue e

-- the log of a node, by the node's index
pub record HasLog {D : Type 0} (at : ℕ) (held : Held D) (own : NodeLog D) : Type 0 where
  pub node : Node D
  pub here : slice_get held.nodes.items at ≡ Some node
  pub is : node.log ≡ Some own
