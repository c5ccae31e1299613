use Rattle.std.proofs.Common.{◌≡◌, ◌+◌, ◌≤◌, ℕ, drop}
use Rattle.qq_raft_protocol.specs.Facts.{tally}
use Rattle.qq_agree.specs.Support.{numbers}
use Rattle.qq_agree.specs.Tests.{has_voted}
use Rattle.qq_agree.proofs.electing.votes.Given as goal

-- those so far and the rest's
abbrev pub invariant-nodes : goal.invariant-nodes
invariant-nodes g l =
    let voted = λ (k : ℕ). has_voted l.term l.to.0 (g.H.Holder.lane l.holder k) in
    record {
      within : l.count ≤ l.node-index;
      rest : l.count + tally voted (numbers (drop l.node-index l.nodes)) ≡ tally voted (numbers l.nodes);
    }
