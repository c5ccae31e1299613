-- How long a new log file is.
use Rattle.std.proofs.Common.{◌≡◌, ◌+◌, ◌*◌, ℕ, suc, eqb, List, [], ◌∷◌, ◌++◌, length, map, refl, arith, length-append}
use Rattle.std.specs.List.{AllByRecursion}
use Rattle.std.proofs.lemmas.Bool.{and_parts, eqb-true}
use Rattle.qq_log.specs.declared.lane.Carry.{Carry}
use Rattle.qq_wal_record.specs.declared.header.Header.{Header}
use Rattle.qq_wal_record.specs.declared.record.LogRecord.{LogRecord}
use Rattle.qq_wal_record.specs.declared.record.LogRecord.TheVariants.{Carry as CarryRecord}
use Rattle.qq_wal_record.specs.Encoding.{header_encoding, record_encoding}
use Rattle.qq_wal_record.specs.Record.{payload_length}
use Rattle.qq_wal.specs.declared.marks.Mark.{Mark}
use Rattle.qq_wal.specs.Batch.{encodings}
use Rattle.qq_wal.specs.Marks.{HasCarry, IsCarry, carries_in}
use Rattle.qq_wal.specs.Wal.{first_length}
use Rattle.qq_wal.proofs.Agreeing.{marks-have}

module _ (records : (file : ℕ) (r : LogRecord) → length (record_encoding file r) ≡ 25 + payload_length r)
    (headers : (h : Header) → length (header_encoding h) ≡ 38) where
  carries-length : (n : ℕ) (carries : List Carry) → AllByRecursion IsCarry carries
      → length (encodings n (map CarryRecord carries)) ≡ 78 * length carries
  carries-length n [] each = refl
  carries-length n (c ∷ carries) each =
      let plain = and_parts (eqb c.base.index.0 0) (eqb (length c.segments) 0) each.0.plain in
      let none : length c.segments ≡ 0 = eqb-true (length c.segments) 0 plain.1 in
      let own : length (record_encoding n (CarryRecord c)) ≡ 25 + (53 + 24 * length c.segments) =
      records n (CarryRecord c) in
      let all : length (record_encoding n (CarryRecord c) ++ encodings n (map CarryRecord carries))
      ≡ 78 * suc (length carries) =
      omega (
        arith,
        length-append (record_encoding n (CarryRecord c)) (encodings n (map CarryRecord carries)),
        own,
        none,
        carries-length n carries each.1,
      ) in
      all

  pub first-size : (h : Header) (marks : List Mark) → AllByRecursion HasCarry marks
      → first_length h marks ≡ 38 + 78 * length (carries_in marks)
  first-size h marks each = omega (
    arith,
    length-append (header_encoding h) (encodings h.file (map CarryRecord (carries_in marks))),
    headers h,
    carries-length h.file (carries_in marks) (marks-have marks each),
  )
