use Rattle.std.proofs.Common.{◌≡◌, take, drop, map}
use Rattle.qq_wal.specs.Notices.{sync_mark}
use Rattle.qq_wal.proofs.notices.sync_within.Given as goal

-- the marks before a place are changed
abbrev pub invariant-marks : goal.invariant-marks
invariant-marks l = record {
  front : take l.place l.marks ≡ map sync_mark (take l.place l.fn.marks);
  rest : drop l.place l.marks ≡ drop l.place l.fn.marks;
}
