-- How ops leave a queue's members for the nodes' logs.
use Rattle.std.specs.Prelude.{◌≡◌, ◌<◌, ℕ, List, [], ◌∷◌, ◌++◌}
use Rattle.qq_entry.specs.declared.queue.QueueArgs.{QueueArgs}
use Rattle.qq_log.specs.declared.op.Op.{Op}
use Rattle.qq_raft_model.specs.Group.{Group as GroupState, happens}
use Rattle.qq_raft_model.specs.Group.Event.{Take}
use Rattle.qq_cluster_model.specs.Queue.{waiting}
use Rattle.qq_queue.specs.ClusterQueue.{waiting_ops}
use Rattle.qq_queue.specs.Members.{IsGroupOf, Members, StayDown}

-- a member's next op went behind these
pub record HandsOp (k : ℕ) (args : QueueArgs) (g : GroupState) (old new : Members) (before later : List Op) : Type 0
  where
    pub op : Op
    pub later_is : later ≡ before ++ op ∷ []
    pub was : waiting_ops (g.seat k).server ≡ op ∷ waiting_ops ((happens (Take k) g).seat k).server
    pub group : IsGroupOf args (happens (Take k) g) new
    pub down : StayDown old new

-- whatever group it stood for, where an op waited
abbrev pub TakesOp : ℕ → Members → Members → List Op → List Op → Type 0
TakesOp k old new before later =
    (args : QueueArgs) (g : GroupState) → IsGroupOf args g old → 0 < waiting k g → HandsOp k args g old new before later
