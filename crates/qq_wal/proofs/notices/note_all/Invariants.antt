use Rattle.std.proofs.Common.{◌≡◌, take, drop}
use Rattle.qq_wal.specs.Notices.{note_all}
use Rattle.qq_wal.proofs.notices.note_all.Given as goal

-- the first marks are changed
abbrev pub invariant-marks : goal.invariant-marks
invariant-marks l = record {
  front : take l.mark-index l.marks ≡ note_all (take l.mark-index l.fn.marks) l.op;
  rest : drop l.mark-index l.marks ≡ drop l.mark-index l.fn.marks;
}
