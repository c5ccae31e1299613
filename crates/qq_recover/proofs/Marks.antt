-- The marks of the records ahead.
use Rattle.std.proofs.Common.{◌≡◌, ℕ, ◌+◌, List, [], ◌∷◌, ◌++◌, drop, Option, Some, None, subst}
use Rattle.std.specs.Prelude.{IfSome, option_to_list}
use Rattle.qq_wal_record.specs.Ahead.{AreMarks, IsMarkAt, mark_place}

-- the first is that of the record at the front
pub first-mark : (n : ℕ) (bytes : List ℕ) (o : Option (List ℕ)) (old new : List (List ℕ))
    → old ≡ option_to_list o ++ new → AreMarks n old bytes → IfSome o (IsMarkAt n bytes)
first-mark n bytes None old new e are = tt
first-mark n bytes (Some m) old new e are = (subst (λ (ms : List (List ℕ)). AreMarks n ms bytes) e are).0

-- the others are those of the records behind it
pub later-marks : (n : ℕ) (bytes : List ℕ) (old : List (List ℕ)) → AreMarks n old bytes
    → AreMarks n (drop 1 old) (drop (mark_place bytes + 8) bytes)
later-marks n bytes [] are = tt
later-marks n bytes (m ∷ ms) are = are.1
