-- Marks of records that are made before the records are read.
use Rattle.std.specs.Prelude.{◌≡◌, ◌+◌, ℕ, List, [], ◌∷◌, take, drop}
use Rattle.std.specs.Int.{w32, from_be_bytes}
use Rattle.qq_wal_record.specs.Encoding.{record_mark}
use Rattle.qq_wal_record.specs.declared.mark.TheConstants.{MARK_LEN}
use Rattle.qq_wal_record.specs.declared.record.TheConstants.{HEAD_LEN}

-- where the mark of the record at the front begins, by its payload's length
abbrev pub mark_place : List ℕ → ℕ
mark_place bytes = HEAD_LEN + from_be_bytes w32 (take 4 bytes)

-- the mark that the record at the front has to have
abbrev pub IsMarkAt : ℕ → List ℕ → List ℕ → Type 0
IsMarkAt file bytes mark = mark ≡ record_mark file (take (mark_place bytes) bytes)

-- those that the records have to have which stand one behind the other
abbrev pub AreMarks : ℕ → List (List ℕ) → List ℕ → Type 0
AreMarks file [] bytes = Unit
AreMarks file (m ∷ ms) bytes =
    IsMarkAt file bytes m × AreMarks file ms (drop (mark_place bytes + MARK_LEN) bytes)
