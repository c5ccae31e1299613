use Rattle.qq_doctor.proofs.Pairs.{all-alike, pair}
use Rattle.qq_doctor.proofs.checking.first_pair.Goals as goal

pub returns-in-Some-clause-some : goal.returns-in-Some-clause-some
returns-in-Some-clause-some c =
    pair c.args.place c.args.lanes.now c.lanes.i c.in-Some.sides.0 c.in-Some.sides.1 c.in-Some.ensures.some
    c.lanes.invariant

pub returns-clause-none : goal.returns-clause-none
returns-clause-none c =
    all-alike c.args.place c.args.lanes.now c.lanes.i c.lanes-test.false c.lanes.invariant
