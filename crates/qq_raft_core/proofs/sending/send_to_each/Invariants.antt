use Rattle.std.proofs.Common.{◌≡◌, ◌++◌, length, take, drop, map}
use Rattle.std.specs.Prelude.{All, filter}
use Rattle.qq_raft_core.specs.Ends.{IsSendable}
use Rattle.qq_raft_core.specs.Raft.{IsPeer}
use Rattle.qq_raft_core.specs.Peers.{picks, append_from, passed}
use Rattle.qq_raft_core.proofs.sending.send_to_each.Given as goal

-- the first were sent to
abbrev pub invariant-peers : goal.invariant-peers
invariant-peers g l =
    let log = (g.L.LogView.log l.log).entries in
    record {
      out : l.out.items ≡ l.fn.out.items
          ++ map (append_from l.sender.node l.sender.term l.sender.commit log)
          (filter (picks l.target (length log)) (take l.peer-index l.fn.peers));
      front : take l.peer-index l.peers ≡ map (passed l.target log) (take l.peer-index l.fn.peers);
      rest : drop l.peer-index l.peers ≡ drop l.peer-index l.fn.peers;
      each : All IsPeer l.peers;
      sent : All IsSendable l.out.items;
    }
