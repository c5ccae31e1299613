use Rattle.std.proofs.Common.{◌≡◌, take, map}
use Rattle.qq_raft_model.specs.State.{say_all}
use Rattle.qq_raft_model.specs.Leading.{ask}
use Rattle.qq_raft_core.specs.Undone.{before}
use Rattle.qq_raft_core.specs.Raft.{server_of, IsSound}
use Rattle.qq_raft_core.proofs.raft.Raft.ask_all.Given as goal

-- the first were asked
abbrev pub invariant-peers : goal.invariant-peers
invariant-peers g l =
    let log = g.L.LogView.log in
    let first = server_of log l.fn.self in
    record {
      sound : IsSound log l.self;
      before : before log l.self ≡ before log l.fn.self;
      server : server_of log l.self ≡ say_all (map (ask first) (take l.place first.peers)) first;
    }
