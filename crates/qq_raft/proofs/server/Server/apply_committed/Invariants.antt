use Rattle.std.proofs.Common.{◌≡◌, ◌≤◌, ◌-◌}
use Rattle.qq_raft.specs.Stands.{IsSound}
use Rattle.qq_raft.proofs.Entries.{AppliesFirst}
use Rattle.qq_raft.proofs.server.Server.apply_committed.Given as goal

-- the first entries were applied
abbrev pub invariant-entries : goal.invariant-entries
invariant-entries g l =
    let log = g.L.LogView.log in
    record {
      sound : IsSound log g.Q.Queue.applied l.self;
      raft : l.self.raft ≡ l.fn.self.raft;
      from : l.fn.self.applied ≤ l.counter;
      applied : l.self.applied ≡ l.counter;
      first : AppliesFirst g.Q.Queue.stands log g.Q.Queue.step (l.counter - l.fn.self.applied) l.fn.self l.self;
    }
