use Rattle.std.proofs.Common.{arith}
use Rattle.std.proofs.lemmas.List.Elements.{All-set}
use Rattle.qq_raft_core.specs.Raft.{IsPeer}
use Rattle.qq_raft_core.specs.Peers.{change_peer}
use Rattle.qq_base.proofs.InPlace.{mapped_front, mapped_rest}
use Rattle.qq_raft_core.proofs.peers.change_each.Goals as goal

pub peers-preserved : goal.peers-preserved
peers-preserved c = record {
  front = mapped_front (change_peer c.args.change) c.args.peers.now c.peers.peers c.peers.peer-index _
      c.change_peer.new.peer (omega arith) (omega arith) c.peers.invariant.front c.peers.invariant.rest
      c.change_peer.ensures.value;
  rest = mapped_rest c.args.peers.now c.peers.peers c.peers.peer-index c.change_peer.new.peer
      c.peers.invariant.rest;
  each = All-set IsPeer c.peers.peers c.peers.peer-index c.change_peer.new.peer c.change_peer.ensures.peer c.peers.invariant.each;
}
