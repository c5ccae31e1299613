use Rattle.std.proofs.Common.{◌≡◌, true, false, arith}
use Rattle.std.proofs.lemmas.Bool.Decides.{Decides-at}
use Rattle.std.proofs.lemmas.Grind.{common_steps}
use Rattle.qq_agree.specs.Tests.{has_election}
use Rattle.qq_agree.proofs.Elections.{has_election-decides}
use Rattle.qq_agree.proofs.electing.has_election.Goals as goal

pub returns-then-may_lead_by-clause-exact : goal.returns-then-may_lead_by-clause-exact
returns-then-may_lead_by-clause-exact g c =
    let lane = g.H.Holder.lane c.args.holder.now in
    let is : true ≡ has_election c.args.nodes.now lane c.args.term = grind (arith, common_steps) in
    Decides-at true (has_election c.args.nodes.now lane c.args.term) is
    (has_election-decides c.args.nodes.now lane c.args.term)

pub returns-clause-exact : goal.returns-clause-exact
returns-clause-exact g c =
    let lane = g.H.Holder.lane c.args.holder.now in
    let is : false ≡ has_election c.args.nodes.now lane c.args.term = grind (arith, common_steps) in
    Decides-at false (has_election c.args.nodes.now lane c.args.term) is
    (has_election-decides c.args.nodes.now lane c.args.term)
