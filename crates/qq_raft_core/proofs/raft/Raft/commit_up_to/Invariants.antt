use Rattle.std.proofs.Common.{◌≡◌, ◌-◌}
use Rattle.qq_raft_model.specs.Leading.{commit_within}
use Rattle.qq_raft_core.specs.Raft.{server_of}
use Rattle.qq_raft_core.proofs.raft.Raft.commit_up_to.Given as goal

-- none of those above may be committed
abbrev pub invariant-search : goal.invariant-search
invariant-search g l =
    let s = server_of g.L.LogView.log l.self in
    commit_within s (l.start - l.i) ≡ commit_within s l.start
