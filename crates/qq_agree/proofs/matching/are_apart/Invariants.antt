use Rattle.std.proofs.Common.{◌≡◌, ◌+◌, ◌-◌, ◌≤◌, drop, length}
use Rattle.qq_agree.specs.Tests.{apart}
use Rattle.qq_agree.proofs.matching.are_apart.Given as goal

-- the rest of both is apart where both are
abbrev pub invariant-steps : goal.invariant-steps
invariant-steps g l =
    let one = (g.H.Holder.lane l.holder l.a.0).log in
    let two = (g.H.Holder.lane l.holder l.b.0).log in
    record {
      own : l.own ≤ length one;
      other : l.other ≤ length two;
      rest : apart (l.count - l.step) (drop l.own one) (drop l.other two)
          ≡ apart (length one + (length two - 1)) (drop l.first one) (drop l.first two);
    }
