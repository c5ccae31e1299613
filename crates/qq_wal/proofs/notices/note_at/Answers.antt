use Rattle.std.proofs.Common.{ap, sym, ◌∙◌, set, arith}
use Rattle.qq_wal.specs.declared.marks.Mark.{Mark}
use Rattle.qq_wal.specs.Notices.{note_mark}
use Rattle.qq_wal.proofs.Rising.{past-change, set-change}
use Rattle.qq_wal.proofs.notices.note_at.Goals as goal

pub returns-then-place-marks : goal.returns-then-place-marks
returns-then-place-marks c =
    ap (λ (m : Mark). set c.args.marks.now c.args.place m) c.note_mark.ensures
    ∙ set-change (note_mark c.args.op.now) c.args.marks.now c.args.place c.index-marks-place.result (omega arith)

pub returns-else-place-marks : goal.returns-else-place-marks
returns-else-place-marks c = sym (past-change (note_mark c.args.op.now) c.args.marks.now c.args.place (omega arith))
