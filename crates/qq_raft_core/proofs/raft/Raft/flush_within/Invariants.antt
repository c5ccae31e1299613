use Rattle.std.proofs.Common.{◌≡◌, ◌-◌}
use Rattle.qq_raft_model.specs.Leading.{flush_within}
use Rattle.qq_raft_core.specs.Undone.{before}
use Rattle.qq_raft_core.specs.Raft.{server_of, IsSound}
use Rattle.qq_raft_core.proofs.raft.Raft.flush_within.Given as goal

-- the rounds that are left do the rest
abbrev pub invariant-sends : goal.invariant-sends
invariant-sends g l =
    let log = g.L.LogView.log in
    record {
      sound : IsSound log l.self;
      before : before log l.self ≡ before log l.fn.self;
      rest : flush_within (l.rounds - l.round) (server_of log l.self) ≡ flush_within l.rounds (server_of log l.fn.self);
    }
