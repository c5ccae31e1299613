use Rattle.std.proofs.Common.{◌≡◌, drop}
use Rattle.qq_agree.specs.Tests.{all_match}
use Rattle.qq_agree.proofs.matching.all_match.Given as goal

-- the rest answers as all do
abbrev pub invariant-nodes : goal.invariant-nodes
invariant-nodes g l =
    let lane = g.H.Holder.lane l.holder in
    all_match lane (drop l.at l.nodes) ≡ all_match lane l.nodes
