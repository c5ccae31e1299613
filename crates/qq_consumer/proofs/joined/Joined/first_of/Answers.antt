use Rattle.qq_consumer.proofs.Changing.{found-first, passed-first}
use Rattle.std.proofs.Common.{arith}
use Rattle.qq_consumer.proofs.joined.Joined.first_of.Goals as goal

pub returns-in-Some-clause-value : goal.returns-in-Some-clause-value
returns-in-Some-clause-value c =
    found-first c.args.session c.args.self.now.served c.rows.place c.in-Some.id
    (omega (arith, c.rows-test.true, c.len-place-end.ensures.len)) c.in-Some.ensures
    c.rows.invariant

pub rows-preserved : goal.rows-preserved
rows-preserved c =
    passed-first c.args.session c.args.self.now.served c.rows.place
    (omega (arith, c.rows-test.true, c.len-place-end.ensures.len)) c.in_default.ensures
    c.rows.invariant
