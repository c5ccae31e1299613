use Rattle.std.proofs.Common.{refl, arith}
use Rattle.qq_wal.specs.Notices.{sync_mark}
use Rattle.qq_base.proofs.InPlace.{mapped_front, mapped_rest}
use Rattle.qq_wal.proofs.Noting.{synced-front, synced-past}
use Rattle.qq_wal.proofs.notices.sync_within.Goals as goal

pub marks-init : goal.marks-init
marks-init c = record {
  front = synced-front c.args.first c.args.end c.args.marks.now c.requires;
  rest = refl;
}

pub marks-preserved : goal.marks-preserved
marks-preserved c = record {
  front = mapped_front sync_mark c.args.marks.now c.marks.marks c.marks.place c.index-marks-place.result
      c.sync_mark.new.mark (omega (arith, c.marks-test.true, c.min-end.ensures))
      (omega (arith, c.marks-test.true, c.min-end.ensures)) c.marks.invariant.front c.marks.invariant.rest
      c.sync_mark.ensures;
  rest = mapped_rest c.args.marks.now c.marks.marks c.marks.place c.sync_mark.new.mark c.marks.invariant.rest;
}

pub returns : goal.returns
returns c =
    synced-past c.args.first c.args.end c.marks.place c.args.marks.now c.marks.marks c.requires
    (omega (arith, c.marks-test.false, c.min-end.ensures)) c.marks.invariant.front c.marks.invariant.rest
