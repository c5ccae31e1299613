use Rattle.std.proofs.Common.{◌≡◌, take, drop, map}
use Rattle.std.specs.Prelude.{All}
use Rattle.qq_raft_core.specs.Raft.{IsPeer}
use Rattle.qq_raft_core.specs.Peers.{change_peer}
use Rattle.qq_raft_core.proofs.peers.change_each.Given as goal

-- the first are changed
abbrev pub invariant-peers : goal.invariant-peers
invariant-peers l = record {
  front : take l.peer-index l.peers ≡ map (change_peer l.change) (take l.peer-index l.fn.peers);
  rest : drop l.peer-index l.peers ≡ drop l.peer-index l.fn.peers;
  each : All IsPeer l.peers;
}
