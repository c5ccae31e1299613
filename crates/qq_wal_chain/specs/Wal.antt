-- The format of the log of a node's queues.
use Rattle.std.specs.Prelude.{ℕ, List, [], ◌∷◌, Option, Some, None, Result, Ok, Err, nat_lt, if◌then◌else◌}
use Rattle.qq_base.specs.declared.ids.QueueId.{QueueId}
use Rattle.qq_base.specs.Fields.{AreBytes}
use Rattle.qq_wal_record.specs.declared.header.Header.{Header}
use Rattle.qq_wal_record.specs.declared.header.NoHeader.{NoHeader}
use Rattle.qq_wal_record.specs.declared.header.NoHeader.TheVariants.{Short, Magic, Mark, Version}
use Rattle.qq_wal_record.specs.declared.record.LogRecord.{LogRecord}
use Rattle.qq_wal_record.specs.declared.record.NoRecord.{NoRecord}
use Rattle.qq_wal_record.specs.Encoding.{record_encoding, header_encoding}
use Rattle.qq_wal_record.specs.Reading.{record_at, header_at, IsHeader}
use Rattle.qq_wal_record.specs.Record.{IsWritable}
use Rattle.qq_wal_chain.specs.Format.{Format}
use Rattle.qq_wal_chain.specs.Lanes.{Lanes, add_record}

-- the list as far as it is of bytes
abbrev pub real_bytes : List ℕ → List ℕ
real_bytes [] = []
real_bytes (b ∷ bytes) = if nat_lt b 256 then b ∷ real_bytes bytes else []

abbrev pub record_of : Result (LogRecord × ℕ) NoRecord → Option LogRecord
record_of (Ok x) = Some x.0
record_of (Err e) = None

-- the record that stands at the front, where one does
abbrev pub read_record : ℕ → List ℕ → Option LogRecord
read_record file bytes = record_of (record_at file (real_bytes bytes))

-- a header that stands whole: one of ours, or one of another version
pub data WholeHeader : Type 0 where
  Ours : (header : Header) → WholeHeader
  Another : (version : ℕ) → WholeHeader

abbrev pub whole_header : Result Header NoHeader → Option WholeHeader
whole_header (Ok h) = Some (Ours h)
whole_header (Err Short) = None
whole_header (Err Magic) = None
whole_header (Err Mark) = None
whole_header (Err (Version version)) = Some (Another version)

abbrev pub read_whole_header : List ℕ → Option WholeHeader
read_whole_header bytes = whole_header (header_at bytes)

abbrev pub encode_header : WholeHeader → List ℕ
encode_header (Ours h) = header_encoding h
encode_header (Another version) = []

-- a header of another version has no number that a file has
abbrev pub number : WholeHeader → ℕ
number (Ours h) = h.file
number (Another version) = 0

abbrev pub previous : WholeHeader → ℕ
previous (Ours h) = h.previous
previous (Another version) = 0

abbrev pub good : WholeHeader → ℕ
good (Ours h) = h.good
good (Another version) = 0

-- a record that may be written to file n
abbrev pub RecordFits : ℕ → LogRecord → Type 0
RecordFits n r = IsWritable r × AreBytes (record_encoding n r)

abbrev pub HeaderFits : WholeHeader → Type 0
HeaderFits (Ours h) = IsHeader h
HeaderFits (Another version) = ⊥

abbrev pub no_lanes : Lanes
no_lanes = λ id. None

-- with these queues
abbrev pub wal : List QueueId → Format
wal queues = record {
  Record = LogRecord;
  Header = WholeHeader;
  World = Lanes;
  encode = record_encoding;
  read = read_record;
  header_size = 38;
  encode_header = encode_header;
  read_header = read_whole_header;
  number = number;
  previous = previous;
  good = good;
  Fits = RecordFits;
  HeaderFits = HeaderFits;
  start = no_lanes;
  step = add_record queues;
}
