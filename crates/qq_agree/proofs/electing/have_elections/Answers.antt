use Rattle.std.proofs.Common.{◌≡◌, ℕ, true, Some, sym, ◌∙◌}
use Rattle.qq_agree.specs.Tests.{has_election}
use Rattle.qq_agree.proofs.Walks.{elections-more, no-election, next-last}
use Rattle.qq_agree.proofs.electing.have_elections.Goals as goal
use Rattle.qq_agree.proofs.electing.have_elections.Goals.{then-not-same+else-not-has_election, else-not-same}

pub returns-then-not-has_election : goal.returns-then-not-has_election
returns-then-not-has_election g c =
    let lane = g.H.Holder.lane c.args.holder.now in
    no-election c.args.nodes.now lane (lane c.args.node.0).log c.entries.place c.in-Some.entry.now
    (sym c.in-Some.ensures) (sym c.has_election.ensures.test ∙ c.if-not-has_election.true) c.entries.invariant.rest

pub entries-preserved : goal.entries-preserved
entries-preserved g c =
    let lane = g.H.Holder.lane c.args.holder.now in
    let t : ℕ = c.in-Some.entry.now.term.0 in
    let more = elections-more c.args.nodes.now lane (lane c.args.node.0).log c.entries.place c.in-Some.entry.now
    (sym c.in-Some.ensures) c.entries.invariant.rest in
    elim c.if-not-same.branch [
      | then-not-same+else-not-has_election w ↦
          let is : has_election c.args.nodes.now lane t ≡ true =
          sym w.has_election.ensures.test ∙ w.if-not-has_election.false in
          record {
            before = λ u same. next-last c.args.nodes.now lane t u c.if-not-same.before is w.before-is same;
            rest = more is;
          }
      | else-not-same w ↦
          let same : c.entries.before ≡ Some t = c.is_last-same.ensures.0 w.if-not-same.false in
          let is : has_election c.args.nodes.now lane t ≡ true = c.entries.invariant.before t same in
          record { before = λ u own. c.entries.invariant.before u (sym w.before-is ∙ own); rest = more is }
    ]
