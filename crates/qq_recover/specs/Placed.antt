-- Records with their places.
use Rattle.std.specs.Prelude.{ℕ, ◌+◌, List, [], ◌∷◌, length}
use Rattle.qq_wal_record.specs.declared.record.LogRecord.{LogRecord}
use Rattle.qq_wal_record.specs.Encoding.{record_encoding}

-- a record of a file, and where it begins
pub record Placed : Type 0 where
  pub place : ℕ
  pub entry : LogRecord

-- records of file n that stand one behind the other from a place on
abbrev pub placed : ℕ → ℕ → List LogRecord → List Placed
placed n place [] = []
placed n place (r ∷ rs) = record { place = place; entry = r } ∷ placed n (place + length (record_encoding n r)) rs
