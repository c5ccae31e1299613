use Rattle.std.proofs.Common.{◌≡◌, ◌≤◌, drop, take}
use Rattle.qq_raft_core.proofs.raft.copy_behind.Given as goal

-- those so far
abbrev pub invariant-entries : goal.invariant-entries
invariant-entries g l =
    record {
      copied : l.copied.items ≡ drop l.first (take l.index (g.L.LogView.log l.log).entries);
      behind : l.first ≤ l.index;
      before : l.index ≤ l.end;
    }
