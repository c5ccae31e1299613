use Rattle.std.proofs.Common.{◌≡◌, drop}
use Rattle.qq_agree.specs.Tests.{matches_each}
use Rattle.qq_agree.proofs.matching.matches_each.Given as goal

-- the rest answers as all do
abbrev pub invariant-nodes : goal.invariant-nodes
invariant-nodes g l =
    let lane = g.H.Holder.lane l.holder in
    let log = (lane l.node.0).log in
    matches_each lane log (drop l.other-index l.nodes) ≡ matches_each lane log l.nodes
