use Rattle.std.proofs.Common.{arith}
use Rattle.std.proofs.lemmas.Bool.Decides.{not_from_Decides}
use Rattle.qq_doctor.proofs.Reached.{agreed-more, none-after, none-past}
use Rattle.qq_doctor.proofs.checking.check.Goals as goal

pub returns-then-not-is_reached : goal.returns-then-not-is_reached
returns-then-not-is_reached c = (
  c.places.invariant,
  none-after c.args.members c.args.lanes.now c.places.upto
      (not_from_Decides c.counts-is_reached.result c.counts-is_reached.ensures c.if-not-is_reached.true),
)

pub returns-in-Some : goal.returns-in-Some
returns-in-Some c = (
  omega arith,
  c.counts-is_reached.ensures.0 c.if-not-is_reached.false,
  c.in-Some.ensures.some,
  λ place first below. c.places.invariant place first (omega (arith, below)),
)

pub places-preserved : goal.places-preserved
places-preserved c =
    agreed-more c.args.members c.args.lanes.now c.places.upto (c.counts-is_reached.ensures.0 c.if-not-is_reached.false)
    c.in_default.ensures.none c.places.invariant

pub returns : goal.returns
returns c = (
  λ place first le. c.places.invariant place first (omega (arith, le, c.places-test.false)),
  none-past c.args.members c.args.lanes.now,
)
