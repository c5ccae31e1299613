-- Reading a record or a header from the front of bytes, with the first refusal that applies.
use Rattle.std.specs.Prelude.{◌≡◌, ◌<◌, ◌+◌, ◌^◌, ℕ, true, Bool, List, length, take, drop, Option, Some, None, Result, Ok, Err, nat_lt, ◌==◌, if◌then◌else◌}
use Rattle.std.specs.Int.{Width, w8, w32, w64, from_be_bytes}
use Rattle.qq_base.specs.declared.ids.NodeId.{NodeId}
use Rattle.qq_base.specs.declared.ids.QueueId.{QueueId}
use Rattle.qq_base.specs.declared.memory.Memory.{Memory as Cause}
use Rattle.qq_base.specs.declared.memory.Memory.TheVariants.{Want}
use Rattle.qq_entry.specs.declared.command.Entry.{Entry}
use Rattle.qq_fields.specs.Reading as fields
use Rattle.qq_fields.specs.Reading.{◌>>=◌}
use Rattle.qq_command.specs.declared.refusal.Refusal.{Refusal}
use Rattle.qq_command.specs.Reading as commands
use Rattle.qq_log.specs.declared.limits.TheConstants.{NODE_LIMIT, PAYLOAD_LIMIT}
use Rattle.qq_log.specs.declared.head.SnapshotHead.{SnapshotHead}
use Rattle.qq_log.specs.declared.head.Span.{Span}
use Rattle.qq_log.specs.declared.op.Op.TheVariants.{Change, SnapshotMade, SegmentMade}
use Rattle.qq_wal_record.specs.declared.header.Header.{Header}
use Rattle.qq_wal_record.specs.declared.header.NoHeader.{NoHeader}
use Rattle.qq_wal_record.specs.declared.header.NoHeader.TheVariants as no_header
use Rattle.qq_wal_record.specs.declared.record.LogRecord.{LogRecord}
use Rattle.qq_wal_record.specs.declared.record.LogRecord.TheVariants.{Op, Carry}
use Rattle.qq_wal_record.specs.declared.record.NoRecord.{NoRecord}
use Rattle.qq_wal_record.specs.declared.record.NoRecord.TheVariants.{Short, Mark, Kind, Field, Memory}
use Rattle.qq_wal_record.specs.Encoding.{magic, record_mark, record_encoding, header_encoding}
use Rattle.qq_wal_record.specs.Mark.{mark, same_bytes}
use Rattle.qq_wal_record.specs.declared.mark.TheConstants.{MARK_LEN}
use Rattle.qq_wal_record.specs.declared.header.TheConstants.{HEADER_LEN, VERSION}
use Rattle.qq_wal_record.specs.declared.record.TheConstants.{CHANGE, SNAPSHOT, SEGMENT, CARRY, HEAD_LEN}
use Rattle.qq_wal_record.specs.Record.{IsWritable}

-- The memory that a refusal is for want of.
abbrev pub memory_of : NoRecord → Option Cause
memory_of Memory = Some Want
memory_of _ = None

-- What a call answered is what reading gives, unless memory ran out.
abbrev pub Fails : {Y : Type 0} → NoRecord → Result Y NoRecord → Type 0
Fails e read = fields.Fails memory_of e read

abbrev pub Gives : {X Y : Type 0} → (X → Y) → Result X NoRecord → Result Y NoRecord → Type 0
Gives view answered read = fields.Gives memory_of view answered read

-- ---- fields: a value and the bytes after it

abbrev pub Taken : Type 0 → Type 0
Taken A = fields.Field NoRecord A

abbrev pub number_at : Width → List ℕ → Taken ℕ
number_at w bytes = fields.number_at Field w bytes

abbrev pub vote_of : ℕ → Option NodeId
vote_of n = if n == 0 then None else Some (record { 0 = n })

unfoldable pub vote_at : List ℕ → Taken (Option NodeId)
vote_at bytes = do
  n ← number_at w8 bytes
  if nat_lt NODE_LIMIT n.0 then Err Field else Ok (vote_of n.0, n.1)

unfoldable pub head_at : List ℕ → Taken SnapshotHead
head_at bytes = do
  index ← number_at w64 bytes
  term ← number_at w64 index.1
  through ← number_at w64 term.1
  Ok (
    record { index = record { 0 = index.0 }; term = record { 0 = term.0 }; through = record { 0 = through.0 } },
    through.1,
  )

unfoldable pub segment_at : List ℕ → Taken Span
segment_at bytes = do
  file ← number_at w64 bytes
  first ← number_at w64 file.1
  last ← number_at w64 first.1
  Ok (record { file = file.0; segment = true; first = record { 0 = first.0 }; last = record { 0 = last.0 } }, last.1)

-- what is no entry is no field
abbrev pub as_field : {A : Type 0} → Result A Refusal → Result A NoRecord
as_field (Ok x) = Ok x
as_field (Err e) = Err Field

-- a count, and so many entries
unfoldable pub entries_at : List ℕ → Taken (List Entry)
entries_at bytes = as_field (commands.entries_at bytes)

-- a count, and so many segments
unfoldable pub segments_at : List ℕ → Taken (List Span)
segments_at bytes = fields.list_at Field segment_at bytes

-- ---- payloads, of a queue and with an op's number

unfoldable pub change_at : QueueId → ℕ → List ℕ → Taken LogRecord
change_at queue op bytes = do
  term ← number_at w64 bytes
  vote ← vote_at term.1
  keep ← number_at w64 vote.1
  entries ← entries_at keep.1
  Ok (Op (Change queue op (record { 0 = term.0 }) vote.0 (record { 0 = keep.0 }) entries.0), entries.1)

unfoldable pub snapshot_made_at : QueueId → ℕ → List ℕ → Taken LogRecord
snapshot_made_at queue op bytes = do
  head ← head_at bytes
  file ← number_at w64 head.1
  Ok (Op (SnapshotMade queue op head.0 file.0), file.1)

unfoldable pub segment_made_at : QueueId → ℕ → List ℕ → Taken LogRecord
segment_made_at queue op bytes = do
  segment ← segment_at bytes
  Ok (Op (SegmentMade queue op segment.0.file segment.0.first segment.0.last), segment.1)

unfoldable pub carry_at : QueueId → ℕ → List ℕ → Taken LogRecord
carry_at queue op bytes = do
  term ← number_at w64 bytes
  vote ← vote_at term.1
  base ← head_at vote.1
  snapshot ← number_at w64 base.1
  segments ← segments_at snapshot.1
  last ← number_at w64 segments.1
  Ok (
    Carry (record {
      queue = queue;
      op = op;
      term = record { 0 = term.0 };
      vote = vote.0;
      base = base.0;
      snapshot = snapshot.0;
      segments = segments.0;
      last = record { 0 = last.0 };
    }),
    last.1,
  )

unfoldable pub payload_at : ℕ → QueueId → ℕ → List ℕ → Taken LogRecord
payload_at kind queue op bytes =
    if kind == CHANGE then change_at queue op bytes
    else if kind == SNAPSHOT then snapshot_made_at queue op bytes
    else if kind == SEGMENT then segment_made_at queue op bytes
    else if kind == CARRY then carry_at queue op bytes
    else Err Kind

-- a payload that takes all of the bytes
unfoldable pub whole_payload_at : ℕ → QueueId → ℕ → List ℕ → Result LogRecord NoRecord
whole_payload_at kind queue op bytes = do
  read ← payload_at kind queue op bytes
  if length read.1 == 0 then Ok read.0 else Err Field

-- ---- records

-- only a carry may be longer than an op's limit
abbrev pub is_too_long : ℕ → ℕ → Bool
is_too_long kind len = if kind == CARRY then Bool.false else nat_lt PAYLOAD_LIMIT len

-- the fields of a record of this payload's length, behind its mark's test
unfoldable pub inside_at : ℕ → List ℕ → Result LogRecord NoRecord
inside_at len bytes = do
  kind ← number_at w8 (drop 4 bytes)
  queue ← number_at w32 kind.1
  op ← number_at w64 queue.1
  whole_payload_at kind.0 (record { 0 = queue.0 }) op.0 (take len (drop HEAD_LEN bytes))

-- the record of this payload's length
unfoldable pub marked_at : ℕ → ℕ → List ℕ → Result (LogRecord × ℕ) NoRecord
marked_at file len bytes =
    let end = HEAD_LEN + len in
    if same_bytes (record_mark file (take end bytes)) (take MARK_LEN (drop end bytes)) then (do
      r ← inside_at len bytes
      Ok (r, end + MARK_LEN)) else Err Mark

-- The record at the front, and how many bytes it takes.
unfoldable pub record_at : ℕ → List ℕ → Result (LogRecord × ℕ) NoRecord
record_at file bytes = if nat_lt (length bytes) HEAD_LEN then Err Short else do
  len ← number_at w32 bytes
  kind ← number_at w8 len.1
  if is_too_long kind.0 len.0 then Err Short
      else if nat_lt (length bytes) (HEAD_LEN + len.0 + MARK_LEN) then Err Short
      else marked_at file len.0 bytes

-- what was read: a record that may be written, whose encoding is at the front and as long as said
pub record IsRecordAt (file : ℕ) (bytes : List ℕ) (x : LogRecord × ℕ) : Type 0 where
  pub writable : IsWritable x.0
  pub front : take x.1 bytes ≡ record_encoding file x.0
  pub len : x.1 ≡ length (record_encoding file x.0)

-- ---- headers

-- the number of eight bytes at a place
abbrev pub long_at : ℕ → List ℕ → ℕ
long_at place bytes = from_be_bytes w64 (take 8 (drop place bytes))

-- The header at the front.
unfoldable pub header_at : List ℕ → Result Header NoHeader
header_at bytes =
    if nat_lt (length bytes) HEADER_LEN then Err no_header.Short
    else if same_bytes (take 5 bytes) magic then
    (if same_bytes (mark (take 30 bytes)) (take 8 (drop 30 bytes)) then
    (let byte = from_be_bytes w8 (take 1 (drop 5 bytes)) in
    if byte == VERSION then Ok
    (record { file = long_at 6 bytes; previous = long_at 14 bytes; good = long_at 22 bytes })
    else Err (no_header.Version byte))
    else Err no_header.Mark)
    else Err no_header.Magic

-- the numbers of a header have eight bytes each
abbrev pub IsHeader : Header → Type 0
IsHeader h = (h.file < 2 ^ 64) × (h.previous < 2 ^ 64) × (h.good < 2 ^ 64)

-- what was read: a header, whose encoding is at the front
pub record IsHeaderAt (bytes : List ℕ) (h : Header) : Type 0 where
  pub range : IsHeader h
  pub front : take HEADER_LEN bytes ≡ header_encoding h
