use Rattle.std.proofs.Common.{take}
use Rattle.qq_raft_core.specs.Raft.{server_of}
use Rattle.qq_raft_core.proofs.Holding.{Covers}
use Rattle.qq_raft_core.proofs.raft.Raft.held.Given as goal

-- the first members were looked at
abbrev pub invariant-peers : goal.invariant-peers
invariant-peers g l =
    let s = server_of g.L.LogView.log l.self in
    Covers s l.held (take l.place s.peers)
