use Rattle.std.proofs.Common.{◌≡◌, take}
use Rattle.qq_raft_core.specs.Undone.{log_before}
use Rattle.qq_raft_core.proofs.undo.same_before.Given as goal

-- those so far are the same
abbrev pub invariant-entries : goal.invariant-entries
invariant-entries g l =
    let log = g.L.LogView.log in
    take l.at (log_before l.undos (log l.log).entries) ≡ take l.at (log l.other).entries
