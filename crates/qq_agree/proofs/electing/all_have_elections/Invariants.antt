use Rattle.std.proofs.Common.{◌≡◌, drop}
use Rattle.qq_agree.specs.Tests.{all_have_elections}
use Rattle.qq_agree.proofs.electing.all_have_elections.Given as goal

-- the rest answers as all do
abbrev pub invariant-nodes : goal.invariant-nodes
invariant-nodes g l =
    let lane = g.H.Holder.lane l.holder in
    all_have_elections lane l.nodes (drop l.node-index l.nodes) ≡ all_have_elections lane l.nodes l.nodes
