-- The text of a log file: a line for each record that reads, and one for where they end.
use Rattle.std.specs.Prelude.{ℕ, ◌+◌, List, [], ◌∷◌, ◌++◌, Result, Ok, Err, codes, length}
use Rattle.std.specs.Fmt.{decimal}
use Rattle.qq_log.specs.declared.op.Op.TheVariants.{Change, SnapshotMade, SegmentMade}
use Rattle.qq_wal_record.specs.declared.header.Header.{Header}
use Rattle.qq_wal_record.specs.declared.header.NoHeader.{NoHeader}
use Rattle.qq_wal_record.specs.declared.header.TheConstants.{HEADER_LEN}
use Rattle.qq_wal_record.specs.declared.record.LogRecord.{LogRecord}
use Rattle.qq_wal_record.specs.declared.record.LogRecord.TheVariants.{Op, Carry}
use Rattle.qq_wal_record.specs.Encoding.{record_encoding}
use Rattle.qq_wal_record.specs.Reading.{header_at}
use Rattle.qq_wal_record.specs.Record.{queue, number, payload_length}
use Rattle.qq_wal_chain.specs.Records.{file_records}
use Rattle.qq_wal_chain.specs.Wal.{wal}

abbrev pub kind_text : LogRecord → List ℕ
kind_text (Op (Change queue op term vote keep entries)) = codes "change"
kind_text (Op (SnapshotMade queue op head file)) = codes "snapshot"
kind_text (Op (SegmentMade queue op file first last)) = codes "segment"
kind_text (Carry c) = codes "carry"

-- a blank, and a number
abbrev pub field : ℕ → List ℕ
field n = codes " " ++ decimal n

-- FILE PLACE KIND QUEUE OP BYTES
abbrev pub record_text : ℕ → ℕ → LogRecord → List ℕ
record_text file place r =
    decimal file ++ field place ++ codes " " ++ kind_text r
    ++ field (queue r).0 ++ field (number r) ++ field (payload_length r) ++ 10 ∷ []

-- end FILE PLACE
abbrev pub end_text : ℕ → ℕ → List ℕ
end_text file place = codes "end" ++ field file ++ field place ++ 10 ∷ []

-- records that stand one behind the other from a place on, and where they end
abbrev pub records_text : ℕ → ℕ → List LogRecord → List ℕ
records_text file place [] = end_text file place
records_text file place (r ∷ rs) =
    record_text file place r ++ records_text file (place + length (record_encoding file r)) rs

-- without a header there is no record
abbrev pub headed_text : ℕ → List ℕ → Result Header NoHeader → List ℕ
headed_text file bytes (Ok header) = records_text file HEADER_LEN (file_records (wal []) file bytes)
headed_text file bytes (Err why) = end_text file 0

unfoldable pub file_text : ℕ → List ℕ → List ℕ
file_text file bytes = headed_text file bytes (header_at bytes)
