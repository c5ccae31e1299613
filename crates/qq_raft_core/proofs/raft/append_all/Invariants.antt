use Rattle.std.proofs.Common.{◌≡◌, ◌+◌, ◌≤◌, ◌++◌, length, take}
use Rattle.qq_raft_core.proofs.raft.append_all.Given as goal

-- the first entries stand in the log
abbrev pub invariant-entries : goal.invariant-entries
invariant-entries g l =
    let old = g.L.LogView.log l.fn.log in
    let now = g.L.LogView.log l.log in
    record {
      base : now.base ≡ old.base;
      entries : now.entries ≡ old.entries ++ take l.entry-index l.entries;
      room : length l.entries ≤ now.room + l.entry-index;
    }
