-- Who the messages of a group are from and for.
use Rattle.std.specs.Prelude.{◌≡◌, ℕ, true, List, filter, nat_eq, not}
use Rattle.qq_base.specs.declared.ids.NodeId.{NodeId}
use Rattle.qq_raft_protocol.specs.Facts.{In}
use Rattle.qq_raft_msg.specs.Rpc.{envelope}
use Rattle.qq_raft_msg.specs.declared.rpc.Rpc.{Rpc}
use Rattle.qq_raft_model.specs.Group.{has_node}

-- all nodes but one
abbrev pub others : ℕ → List NodeId → List NodeId
others k nodes = filter (λ (q : NodeId). not (nat_eq q.0 k)) nodes

-- a message from one member to another
pub record IsBetween (nodes : List NodeId) (rpc : Rpc) : Type 0 where
  pub from : has_node (envelope rpc).from.0 nodes ≡ true
  pub to : In (envelope rpc).to (others (envelope rpc).from.0 nodes)
