use Rattle.std.proofs.Common.{arith}
use Rattle.qq_wal.specs.Notices.{note_mark}
use Rattle.qq_base.proofs.InPlace.{mapped_front, mapped_rest}
use Rattle.qq_wal.proofs.notices.note_all.Goals as goal

pub marks-preserved : goal.marks-preserved
marks-preserved c = record {
  front = mapped_front (note_mark c.args.op.now) c.args.marks.now c.marks.marks c.marks.mark-index _
      c.note_mark.new.mark (omega arith) (omega arith) c.marks.invariant.front c.marks.invariant.rest
      c.note_mark.ensures;
  rest = mapped_rest c.args.marks.now c.marks.marks c.marks.mark-index c.note_mark.new.mark
      c.marks.invariant.rest;
}
