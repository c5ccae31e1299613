use Rattle.std.proofs.Common.{ap, arith, inl, refl}
use Rattle.qq_group.specs.Handing.{count_by}
use Rattle.qq_group.proofs.seat.Seat.next_change.Goals as goal

pub returns-clause-out : goal.returns-clause-out
returns-clause-out g c =
    let n = ap count_by c.in-Some.is in
    let some = c.requires.some in
    record {
      was = c.in-Some.server;
      now = c.next_op.new.self;
      up = c.in-Some.is;
      seat = refl;
      count = inl c.saturating_add-self.ensures;
      same = c.next_op.ensures.same;
      there = omega (arith, n, some);
      rest = c.next_op.ensures.rest;
    }
