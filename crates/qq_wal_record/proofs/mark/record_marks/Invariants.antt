use Rattle.std.proofs.Common.{◌≡◌, ℕ, List, map, take}
use Rattle.qq_wal_record.proofs.mark.record_marks.Given as goal

abbrev pub invariant-marks : goal.invariant-marks
invariant-marks l = l.marks.items ≡ map (λ (d : List ℕ). take 8 d) (take l.digest-index l.digest-items)
