use Rattle.std.proofs.Common.{◌≡◌, ◌+◌, ◌-◌, ◌++◌, drop}
use Rattle.qq_raft_model.specs.Leading.{fit}
use Rattle.qq_raft_core.proofs.batch.add_fitting.Given as goal

-- what fits from here on completes what fits
abbrev pub invariant-entries : goal.invariant-entries
invariant-entries g l =
    let log = (g.L.LogView.log l.log).entries in
    l.entries.items ++ fit (l.count - l.i) l.left (drop (l.place + l.i) log)
    ≡ l.fn.entries.items ++ fit l.count l.room (drop l.place log)
