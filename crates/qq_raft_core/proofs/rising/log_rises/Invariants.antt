use Rattle.std.proofs.Common.{◌≡◌, drop}
use Rattle.qq_raft_core.specs.Rising.{rises}
use Rattle.qq_raft_core.proofs.rising.log_rises.Given as goal

-- those that are left rise as all do
abbrev pub invariant-entries : goal.invariant-entries
invariant-entries g l =
    let es = (g.L.LogView.log l.log).entries in
    rises l.term.0 l.end.0 (drop l.at es) ≡ rises 0 l.end.0 es
