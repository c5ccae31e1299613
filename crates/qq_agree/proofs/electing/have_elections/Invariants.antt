use Rattle.std.proofs.Common.{◌≡◌, ℕ, true, Some, drop}
use Rattle.qq_agree.specs.Tests.{has_election, have_elections}
use Rattle.qq_agree.proofs.electing.have_elections.Given as goal

-- the rest answers as all do, and the term of the entry before it has its election
abbrev pub invariant-entries : goal.invariant-entries
invariant-entries g l =
    let lane = g.H.Holder.lane l.holder in
    let log = (lane l.node.0).log in
    record {
      before : (t : ℕ) → l.before ≡ Some t → has_election l.nodes lane t ≡ true;
      rest : have_elections l.nodes lane (drop l.place log) ≡ have_elections l.nodes lane log;
    }
