use Rattle.std.proofs.Common.{◌≡◌, drop}
use Rattle.qq_agree.specs.Tests.{all_rise}
use Rattle.qq_agree.proofs.rising.all_rise.Given as goal

-- the rest answers as all do
abbrev pub invariant-nodes : goal.invariant-nodes
invariant-nodes g l =
    let lane = g.H.Holder.lane l.holder in
    all_rise lane (drop l.node-index l.nodes) ≡ all_rise lane l.nodes
