use Rattle.std.proofs.Common.{◌≡◌, drop}
use Rattle.qq_raft_core.specs.Rising.{rises}
use Rattle.qq_raft_core.proofs.rising.rises.Given as goal

-- those that are left rise as all do
abbrev pub invariant-entries : goal.invariant-entries
invariant-entries l = rises l.term.0 l.end.0 (drop l.place l.entries) ≡ rises l.fn.first.0 l.end.0 l.entries
