use Rattle.std.proofs.Common.{◌≡◌, take}
use Rattle.std.specs.List.{fold}
use Rattle.qq_wal.specs.Ranges.{ranges_in, write_record}
use Rattle.qq_wal.proofs.ranges.FileRanges.write_batch.Given as goal

-- as many are written as the loop has come
abbrev pub invariant-loop-i : goal.invariant-loop-i
invariant-loop-i l = ranges_in l.self ≡ fold write_record (ranges_in l.fn.self) (take l.i l.waiting.items)
