-- How long encodings are.
use Rattle.std.proofs.Common.{◌≡◌, ℕ, ◌+◌, ◌*◌, ◌^◌, ◌<◌, ◌≤◌, List, [], ◌∷◌, ◌++◌, length, refl, ap, arith}
use Rattle.std.specs.List.{flat_map}
use Rattle.std.proofs.lemmas.List.{length-append, length-take}
use Rattle.std.proofs.lemmas.List.Concat.{flat_map-cons}
use Rattle.sha2.specs.Sha256.{sha256, digest_bytes, final_hash, initial_hash_256}
use Rattle.qq_entry.specs.declared.command.Entry.{Entry}
use Rattle.qq_fields.specs.Writing.{u32, u64, list}
use Rattle.qq_command.specs.Encoding.{encoding, entries}
use Rattle.qq_log.specs.declared.head.SnapshotHead.{SnapshotHead}
use Rattle.qq_log.specs.declared.head.Span.{Span}
use Rattle.qq_log.specs.declared.lane.Carry.{Carry as QueueCarry}
use Rattle.qq_log.specs.declared.op.Op.{Op as QueueOp}
use Rattle.qq_log.specs.declared.op.Op.TheVariants.{Change, SnapshotMade, SegmentMade}
use Rattle.qq_log.specs.Writable.{payload_length as op_length, carry_length}
use Rattle.qq_wal_record.specs.declared.record.LogRecord.{LogRecord}
use Rattle.qq_wal_record.specs.declared.record.LogRecord.TheVariants.{Op, Carry}
use Rattle.qq_wal_record.specs.declared.header.Header.{Header}
use Rattle.qq_wal_record.specs.Encoding.{head, segment, segments, change_payload, op_payload, carry_payload, payload, inside, body, record_mark, record_encoding, header_body, header_encoding}
use Rattle.qq_wal_record.specs.Mark.{mark}
use Rattle.qq_wal_record.specs.Record.{payload_length, IsWritable}

digest_len : (h : List ℕ) → length (digest_bytes h 8) ≡ 32
unfolding digest_bytes
digest_len h = refl

pub mark_len : (bytes : List ℕ) → length (mark bytes) ≡ 8
unfolding mark sha256
mark_len bytes =
    omega (
      arith,
      length-take 8 (digest_bytes (final_hash initial_hash_256 bytes) 8),
      digest_len
          (final_hash initial_hash_256 bytes),
    )

pub record_mark_len : (file : ℕ) (bytes : List ℕ) → length (record_mark file bytes) ≡ 8
unfolding record_mark
record_mark_len file bytes = mark_len (u64 file ++ bytes)

-- an entry has one byte or more
encoding_some : (e : Entry) → 0 < length (encoding e)
unfolding encoding
encoding_some e = omega arith

pub entries_count : (es : List Entry) → length es ≤ length (flat_map encoding es)
entries_count [] = omega arith
entries_count (e ∷ es) =
    omega (
      arith,
      ap length (flat_map-cons encoding e es),
      length-append (encoding e) (flat_map encoding es),
      encoding_some e,
      entries_count es,
    )

segment_len : (span : Span) → length (segment span) ≡ 24
unfolding segment
segment_len span = refl

segments_len : (spans : List Span) → length (flat_map segment spans) ≡ 24 * length spans
segments_len [] = refl
segments_len (s ∷ spans) =
    omega (
      arith,
      ap length (flat_map-cons segment s spans),
      length-append (segment s) (flat_map segment spans),
      segment_len s,
      segments_len spans,
    )

head_len : (h : SnapshotHead) → length (head h) ≡ 24
unfolding head
head_len h = refl

op_len : (op : QueueOp) → length (op_payload op) ≡ op_length op
unfolding change_payload entries list head segment
op_len (Change queue op term by keep es) = omega arith
op_len (SnapshotMade queue op h file) = refl
op_len (SegmentMade queue op file first last) = refl

carry_len : (c : QueueCarry) → length (carry_payload c) ≡ carry_length c
unfolding carry_payload segments list head
carry_len c = omega (arith, segments_len c.segments, length-append (flat_map segment c.segments) (u64 c.last.0))

pub payload_len : (r : LogRecord) → length (payload r) ≡ payload_length r
payload_len (Op op) = op_len op
payload_len (Carry c) = carry_len c

pub payload_fits : (r : LogRecord) → IsWritable r → length (payload r) < 2 ^ 32
payload_fits (Op op) w = omega (arith, op_len op, w.payload)
payload_fits (Carry c) w = omega (arith, carry_len c, w.payload)

pub inside_len : (r : LogRecord) → length (inside r) ≡ 13 + length (payload r)
unfolding inside
inside_len r = omega arith

pub body_len : (r : LogRecord) → length (body r) ≡ 17 + length (payload r)
unfolding body
body_len r = omega (arith, inside_len r)

pub record_len : (file : ℕ) (r : LogRecord) → length (record_encoding file r) ≡ 25 + payload_length r
unfolding record_encoding
record_len file r =
    omega (
      arith,
      length-append (body r) (record_mark file (body r)),
      body_len r,
      payload_len r,
      record_mark_len
          file (body r),
    )

header_body_len : (h : Header) → length (header_body h) ≡ 30
unfolding header_body
header_body_len h = refl

pub header_len : (h : Header) → length (header_encoding h) ≡ 38
unfolding header_encoding
header_len h =
    omega (arith, length-append (header_body h) (mark (header_body h)), header_body_len h, mark_len (header_body h))

-- what was put, from a length of 0 on
pub body_between : (old first third : List ℕ) (r : LogRecord) → first ≡ old ++ u32 0 → third ≡ first ++ inside r
    → length third ≡ length old + (17 + length (payload r))
body_between old first third r e1 e2 =
    omega (arith, ap length e1, ap length e2, length-append old (u32 0), length-append first (inside r), inside_len r)
