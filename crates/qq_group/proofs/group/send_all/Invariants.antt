use Rattle.std.proofs.Common.{◌≡◌, ◌++◌, length}
use Rattle.std.specs.Prelude.{All}
use Rattle.qq_raft_core.specs.Ends.{IsSendable}
use Rattle.qq_raft_core.specs.Raft.{server_of}
use Rattle.qq_raft.specs.Stands.{IsSound}
use Rattle.qq_base.specs.Fronts.{IsFront}
use Rattle.qq_group.proofs.group.send_all.Given as goal

-- those so far and the rest are all
abbrev pub invariant-messages : goal.invariant-messages
invariant-messages g l =
    let log = g.L.LogView.log in
    record {
      bag : l.bag ++ (server_of log l.server.raft).out ≡ l.fn.bag ++ (server_of log l.fn.server.raft).out;
      sendable : All IsSendable l.bag;
      front : IsFront l.fn.bag l.bag;
      raft : server_of log l.server.raft
          ≡ record (server_of log l.fn.server.raft) { out = (server_of log l.server.raft).out };
      sound : IsSound log g.Q.Queue.applied l.server;
      same : l.server ≡ record l.fn.server { raft = record l.fn.server.raft { out = l.server.raft.out } };
    }

abbrev pub decreases-messages : goal.decreases-messages
decreases-messages g l = length (server_of g.L.LogView.log l.server.raft).out
