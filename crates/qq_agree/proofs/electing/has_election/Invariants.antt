use Rattle.std.proofs.Common.{◌≡◌, drop}
use Rattle.std.specs.List.{list_any}
use Rattle.qq_agree.specs.Tests.{may_lead_by, named}
use Rattle.qq_base.specs.declared.ids.NodeId.{NodeId}
use Rattle.qq_agree.proofs.electing.has_election.Given as goal

-- the rest answers as all do
abbrev pub invariant-nodes : goal.invariant-nodes
invariant-nodes g l =
    let lane = g.H.Holder.lane l.holder in
    let leads = λ (n : NodeId). may_lead_by l.nodes lane l.term (named l.term n.0 (lane n.0)) in
    list_any leads (drop l.node-index l.nodes) ≡ list_any leads l.nodes
