use Rattle.std.proofs.Common.{arith, refl}
use Rattle.std.specs.Prelude.{length}
use Rattle.std.proofs.lemmas.Option.{slice_get_read}
use Rattle.qq_doctor.proofs.Pairs.{from-all, from-more, from-pair}
use Rattle.qq_doctor.proofs.checking.first_from.Goals as goal

pub returns-in-Some-clause-some : goal.returns-in-Some-clause-some
returns-in-Some-clause-some c =
    let lanes = c.args.lanes.now in
    from-pair c.args.place lanes c.args.i c.others.j c.index-lanes-i.result c.index-lanes-j.result c.in-Some.s c.in-Some.t
    (slice_get_read lanes (length lanes) c.args.i c.index-lanes-i.result refl c.requires c.index-lanes-i.is)
    (slice_get_read lanes (length lanes) c.others.j c.index-lanes-j.result refl c.others-test.true c.index-lanes-j.is)
    (omega (arith, c.others.auto.j)) c.in-Some.ensures.some c.others.invariant

pub others-preserved : goal.others-preserved
others-preserved c =
    let lanes = c.args.lanes.now in
    from-more c.args.place lanes c.args.i c.others.j c.index-lanes-i.result c.index-lanes-j.result
    (slice_get_read lanes (length lanes) c.args.i c.index-lanes-i.result refl c.requires c.index-lanes-i.is)
    (slice_get_read lanes (length lanes) c.others.j c.index-lanes-j.result refl c.others-test.true c.index-lanes-j.is)
    c.in_default.ensures.none c.others.invariant

pub returns-clause-none : goal.returns-clause-none
returns-clause-none c =
    from-all c.args.place c.args.lanes.now c.args.i c.others.j c.others-test.false c.others.invariant
