-- The one encoding of each record and header. Numbers have their high byte first.
use Rattle.std.specs.Prelude.{ℕ, true, List, [], ◌∷◌, ◌++◌, length, Option, Some, None}
use Rattle.qq_base.specs.declared.ids.Index.{Index}
use Rattle.qq_base.specs.declared.ids.NodeId.{NodeId}
use Rattle.qq_base.specs.declared.ids.Term.{Term}
use Rattle.qq_entry.specs.declared.command.Entry.{Entry}
use Rattle.qq_fields.specs.Writing.{u8, u32, u64, list}
use Rattle.qq_command.specs.Encoding.{entries}
use Rattle.qq_log.specs.declared.head.SnapshotHead.{SnapshotHead}
use Rattle.qq_log.specs.declared.head.Span.{Span}
use Rattle.qq_log.specs.declared.lane.Carry.{Carry as QueueCarry}
use Rattle.qq_log.specs.declared.op.Op.{Op as QueueOp}
use Rattle.qq_log.specs.declared.op.Op.TheVariants.{Change, SnapshotMade, SegmentMade}
use Rattle.qq_wal_record.specs.declared.header.TheConstants.{VERSION}
use Rattle.qq_wal_record.specs.declared.header.Header.{Header}
use Rattle.qq_wal_record.specs.declared.record.LogRecord.{LogRecord}
use Rattle.qq_wal_record.specs.declared.record.LogRecord.TheVariants.{Op, Carry}
use Rattle.qq_wal_record.specs.Mark.{mark}
use Rattle.qq_wal_record.specs.Record.{kind, queue, number}

-- ---- fields

-- 0 for no vote
abbrev pub vote_number : Option NodeId → ℕ
vote_number None = 0
vote_number (Some node) = node.0

abbrev pub vote : Option NodeId → List ℕ
vote node = u8 (vote_number node)

unfoldable pub head : SnapshotHead → List ℕ
head h = u64 h.index.0 ++ u64 h.term.0 ++ u64 h.through.0

unfoldable pub segment : Span → List ℕ
segment span = u64 span.file ++ u64 span.first.0 ++ u64 span.last.0

-- a count, and so many segments
unfoldable pub segments : List Span → List ℕ
segments spans = list segment spans

-- ---- payloads

unfoldable pub carry_payload : QueueCarry → List ℕ
carry_payload c =
    u64 c.term.0 ++ vote c.vote ++ head c.base ++ u64 c.snapshot ++ segments c.segments ++ u64 c.last.0

unfoldable pub change_payload : Term → Option NodeId → Index → List Entry → List ℕ
change_payload term by keep es = u64 term.0 ++ vote by ++ u64 keep.0 ++ entries es

abbrev pub op_payload : QueueOp → List ℕ
op_payload (Change queue op term by keep es) = change_payload term by keep es
op_payload (SnapshotMade queue op h file) = head h ++ u64 file
op_payload (SegmentMade queue op file first last) =
    segment (record { file = file; segment = true; first = first; last = last })

abbrev pub payload : LogRecord → List ℕ
payload (Op op) = op_payload op
payload (Carry c) = carry_payload c

-- ---- records

-- what follows a payload's length
unfoldable pub inside : LogRecord → List ℕ
inside r = u8 (kind r) ++ u32 (queue r).0 ++ u64 (number r) ++ payload r

-- a record before its mark
unfoldable pub body : LogRecord → List ℕ
body r = u32 (length (payload r)) ++ inside r

-- a record's mark, which is of its file's number too: a record of another file doesn't pass
unfoldable pub record_mark : ℕ → List ℕ → List ℕ
record_mark file bytes = mark (u64 file ++ bytes)

unfoldable pub record_encoding : ℕ → LogRecord → List ℕ
record_encoding file r = body r ++ record_mark file (body r)

-- ---- headers

-- QQLOG
abbrev pub magic : List ℕ
magic = 81 ∷ 81 ∷ 76 ∷ 79 ∷ 71 ∷ []

-- a header before its mark
unfoldable pub header_body : Header → List ℕ
header_body h = magic ++ u8 VERSION ++ u64 h.file ++ u64 h.previous ++ u64 h.good

unfoldable pub header_encoding : Header → List ℕ
header_encoding h = header_body h ++ mark (header_body h)
