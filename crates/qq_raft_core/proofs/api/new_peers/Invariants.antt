use Rattle.std.proofs.Common.{◌≡◌, take, map, not}
use Rattle.std.specs.Prelude.{filter, nat_eq}
use Rattle.qq_base.specs.declared.ids.NodeId.{NodeId}
use Rattle.qq_raft_model.specs.Server.{new_peer}
use Rattle.qq_raft_core.proofs.api.new_peers.Given as goal

-- the first members
abbrev pub invariant-members : goal.invariant-members
invariant-members l =
    l.peers.items ≡ map new_peer (filter (λ (q : NodeId). not (nat_eq q.0 l.node.0)) (take l.member-index l.members))
