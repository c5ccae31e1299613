use Rattle.std.proofs.Common.{◌≡◌, ◌+◌, drop}
use Rattle.qq_raft_model.specs.Server.{agreed}
use Rattle.qq_raft_core.proofs.receiving.agreed.Given as goal

-- those so far have the terms of the own ones
abbrev pub invariant-entries : goal.invariant-entries
invariant-entries g l =
    let log = (g.L.LogView.log l.log).entries in
    l.place + agreed (drop l.place l.entries) (drop (l.before + l.place) log) ≡ agreed l.entries (drop l.before log)
