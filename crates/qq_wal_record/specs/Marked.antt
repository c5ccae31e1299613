-- Records whose marks are made at once, from the bytes before their marks.
use Rattle.std.specs.Prelude.{ℕ, List, [], ◌∷◌, ◌++◌, length, take}
use Rattle.qq_wal_record.specs.declared.record.LogRecord.{LogRecord}
use Rattle.qq_wal_record.specs.Encoding.{body, record_mark}

-- pieces, each with the first bytes of its digest
abbrev pub with_fronts : List (List ℕ) → List (List ℕ) → List ℕ
with_fronts [] digests = []
with_fronts (p ∷ ps) [] = []
with_fronts (p ∷ ps) (d ∷ ds) = (p ++ take 8 d) ++ with_fronts ps ds

-- bytes with their mark
abbrev pub marked : ℕ → List ℕ → List ℕ
marked file bytes = bytes ++ record_mark file bytes

-- how long a record is before its mark
abbrev pub body_length : LogRecord → ℕ
body_length r = length (body r)
