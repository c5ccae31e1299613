use Rattle.std.proofs.Common.{length, arith}
use Rattle.std.proofs.lemmas.List.Elements.{All-set}
use Rattle.qq_raft_core.specs.Raft.{IsPeer}
use Rattle.qq_raft_core.specs.Peers.{picks, append_from, passed}
use Rattle.qq_base.proofs.InPlace.{mapped_front, mapped_rest}
use Rattle.qq_raft_core.proofs.Pushes.{sent-front}
use Rattle.qq_raft_core.proofs.sending.send_to_each.Goals as goal

pub peers-preserved : goal.peers-preserved
peers-preserved g c =
    let log = (g.L.LogView.log c.args.log.now).entries in
    record {
      out = sent-front (picks c.args.target (length log))
          (append_from c.args.sender.node c.args.sender.term c.args.sender.commit log) c.args.peers.now c.peers.peers
          c.peers.peer-index _ c.args.out.now.items c.peers.out.items c.send_to.new.out.items (omega arith)
          c.peers.invariant.rest c.peers.invariant.out c.in_ok-send_to.ensures.ok;
      front = mapped_front (passed c.args.target log) c.args.peers.now c.peers.peers c.peers.peer-index _
          c.send_to.new.peer (omega arith) (omega arith) c.peers.invariant.front c.peers.invariant.rest
          c.in_ok-send_to.ensures.peer;
      rest = mapped_rest c.args.peers.now c.peers.peers c.peers.peer-index c.send_to.new.peer c.peers.invariant.rest;
      each = All-set IsPeer c.peers.peers c.peers.peer-index c.send_to.new.peer
          c.send_to.ensures.peer_kept c.peers.invariant.each;
      sent = c.in_ok-send_to.ensures.out;
    }
