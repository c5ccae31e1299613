use Rattle.std.proofs.Common.{◌≡◌, drop, take}
use Rattle.qq_raft_core.specs.Undone.{log_before}
use Rattle.qq_raft_core.proofs.undo.ends_before.Given as goal

-- those so far are the same
abbrev pub invariant-entries : goal.invariant-entries
invariant-entries g l =
    take l.place (drop l.keep (log_before l.undos (g.L.LogView.log l.log).entries)) ≡ take l.place l.entries
