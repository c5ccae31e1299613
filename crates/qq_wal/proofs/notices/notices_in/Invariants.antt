use Rattle.std.proofs.Common.{◌≡◌, take}
use Rattle.qq_wal.specs.Notices.{notices_in}
use Rattle.qq_wal.proofs.notices.notices_in.Given as goal

-- the first marks have these notices
abbrev pub invariant-marks : goal.invariant-marks
invariant-marks l = l.notices.items ≡ notices_in (take l.mark-index l.marks)
