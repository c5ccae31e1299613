-- The dump of a disk with a record of each kind, in letters.
use Rattle.std.proofs.Common.{◌≡◌, ◌<◌, ◌+◌, ◌++◌, ◌^◌, ℕ, zero, suc, List, [], ◌∷◌, length, Some, Ok, Err, codes, refl, sym, ap, subst, ◌∙◌, arith, append_assoc, drop_at, slice_index}
use Rattle.std.specs.Fmt.{digits}
use Rattle.std.proofs.lemmas.Bool.{lt-ltb}
use Rattle.std.proofs.lemmas.List.{get_or-append-add}
use Rattle.qq_base.specs.Fields.{AreBytes}
use Rattle.qq_disk.specs.declared.name.FileKind.TheVariants.{Segment}
use Rattle.qq_disk.specs.Disk.{Disk, IsListing, content, contents}
use Rattle.qq_disk.specs.Image.{log_of}
use Rattle.qq_wal_record.specs.declared.header.Header.{Header}
use Rattle.qq_wal_record.specs.declared.header.NoHeader.{NoHeader}
use Rattle.qq_wal_record.specs.declared.header.NoHeader.TheVariants as no_header
use Rattle.qq_wal_record.specs.declared.record.LogRecord.{LogRecord}
use Rattle.qq_wal_record.specs.declared.record.NoRecord.TheVariants.{Short}
use Rattle.qq_wal_record.specs.Encoding.{header_encoding, record_encoding}
use Rattle.qq_wal_record.specs.Reading.{IsHeader, header_at, record_at}
use Rattle.qq_wal_record.specs.Record.{IsWritable, payload_length}
use Rattle.qq_wal_chain.specs.Format.{IsFormat}
use Rattle.qq_wal_chain.specs.Records.{records}
use Rattle.qq_wal_chain.specs.Wal.{wal}
use Rattle.qq_dump.specs.Files.{dump_text, log_files}
use Rattle.qq_dump.specs.Text.{end_text, file_text, headed_text, record_text, records_text}
use Rattle.qq_dump.specs.Worked.{carry, change, segment, snapshot, worked_log}
use Rattle.qq_dump.proofs.Listed.{listed-are, shown-bytes}
use Rattle.qq_dump.proofs.Records.{no-more, one-more, read-one}

bytes-after : (a b : List ℕ) → AreBytes (a ++ b) → AreBytes b
bytes-after a b are i = subst (λ (n : ℕ). n < 256) (get_or-append-add a b i 0) (are (length a + i))

-- ---- the records may be written

change-writable : IsWritable change
change-writable = record {
  fields = (
    omega arith,
    omega arith,
    omega arith,
    (omega arith, omega arith),
    omega arith,
    λ k e less. absurd (omega (arith, less)),
  );
  payload = omega arith;
}

snapshot-writable : IsWritable snapshot
snapshot-writable = record {
  fields = (omega arith, omega arith, (omega arith, omega arith, omega arith), omega arith);
  payload = omega arith;
}

segment-writable : IsWritable segment
segment-writable = record {
  fields = (omega arith, omega arith, omega arith, omega arith, omega arith);
  payload = omega arith;
}

carry-writable : IsWritable carry
carry-writable = record {
  queue = omega arith;
  op = omega arith;
  term = omega arith;
  vote = (omega arith, omega arith);
  base = (omega arith, omega arith, omega arith);
  snapshot = omega arith;
  segments = λ k s less. absurd (omega (arith, less));
  last = omega arith;
  payload = omega arith;
}

-- ---- one file

-- where too few bytes are left for a record
too-short : (tail : List ℕ) → length tail < 17 → record_at 1 tail ≡ Err Short
unfolding record_at
too-short tail less = cc (lt-ltb (length tail) 17 less)

no-header : (torn : List ℕ) → length torn < 38 → header_at torn ≡ Err no_header.Short
unfolding header_at
no-header torn less = cc (lt-ltb (length torn) 38 less)

headless : (file : ℕ) (bytes : List ℕ) (e : NoHeader) → header_at bytes ≡ Err e
    → file_text file bytes ≡ end_text file 0
unfolding file_text
headless file bytes e is = ap (headed_text file bytes) is

module _ (laws : IsFormat (wal []))
    (again : (file : ℕ) (r : LogRecord) (rest : List ℕ) → IsWritable r
    → record_at file (record_encoding file r ++ rest) ≡ Ok (r, length (record_encoding file r)))
    (long : (file : ℕ) (r : LogRecord) → length (record_encoding file r) ≡ 25 + payload_length r) where
  line : (place : ℕ) (r : LogRecord) (rest : List ℕ) → IsWritable r → AreBytes (record_encoding 1 r ++ rest)
      → records_text 1 place (records (wal []) 1 (record_encoding 1 r ++ rest))
      ≡ record_text 1 place r ++ records_text 1 (place + (25 + payload_length r)) (records (wal []) 1 rest)
  line place r rest writable are =
      one-more laws 1 place (record_encoding 1 r ++ rest) r (length (record_encoding 1 r))
      (read-one 1 (record_encoding 1 r ++ rest) (Ok (r, length (record_encoding 1 r))) are (again 1 r rest writable))
      refl
      ∙ ap (λ (bs : List ℕ). record_text 1 place r
      ++ records_text 1 (place + length (record_encoding 1 r)) (records (wal []) 1 bs))
      (drop_at (record_encoding 1 r) rest (length (record_encoding 1 r)) refl)
      ∙ ap (λ (n : ℕ). record_text 1 place r ++ records_text 1 (place + n) (records (wal []) 1 rest)) (long 1 r)

  last : (place : ℕ) (tail : List ℕ) → AreBytes tail → length tail < 17
      → records_text 1 place (records (wal []) 1 tail) ≡ end_text 1 place
  last place tail are less = no-more laws 1 place tail (read-one 1 tail (Err Short) are (too-short tail less))

  abbrev four : List ℕ → List ℕ
  four tail =
      record_encoding 1 change
      ++ (record_encoding 1 snapshot ++ (record_encoding 1 segment ++ (record_encoding 1 carry ++ tail)))

  lines : (tail : List ℕ) → AreBytes (four tail) → length tail < 17
      → records_text 1 38 (records (wal []) 1 (four tail))
      ≡ record_text 1 38 change ++ (record_text 1 84 snapshot ++ (record_text 1 141 segment
      ++ (record_text 1 190 carry ++ end_text 1 268)))
  lines tail are less =
      let first = bytes-after (record_encoding 1 change)
      (record_encoding 1 snapshot ++ (record_encoding 1 segment ++ (record_encoding 1 carry ++ tail))) are in
      let second = bytes-after (record_encoding 1 snapshot)
      (record_encoding 1 segment ++ (record_encoding 1 carry ++ tail)) first in
      let third = bytes-after (record_encoding 1 segment) (record_encoding 1 carry ++ tail) second in
      line 38 change (record_encoding 1 snapshot ++ (record_encoding 1 segment ++ (record_encoding 1 carry ++ tail)))
      change-writable are
      ∙ ap (λ (l : List ℕ). record_text 1 38 change ++ l)
      (line 84 snapshot (record_encoding 1 segment ++ (record_encoding 1 carry ++ tail)) snapshot-writable first
      ∙ ap (λ (l : List ℕ). record_text 1 84 snapshot ++ l)
      (line 141 segment (record_encoding 1 carry ++ tail) segment-writable second
      ∙ ap (λ (l : List ℕ). record_text 1 141 segment ++ l)
      (line 190 carry tail carry-writable third
      ∙ ap (λ (l : List ℕ). record_text 1 190 carry ++ l)
      (last 268 tail (bytes-after (record_encoding 1 carry) tail third) less))))

  abbrev first : Header
  first = record { file = 1; previous = 0; good = 0 }

  -- the worked log, one piece after the other
  in-pieces : (tail : List ℕ) → worked_log ++ tail ≡ header_encoding first ++ four tail
  in-pieces tail =
      append_assoc (header_encoding first) (record_encoding 1 change
      ++ (record_encoding 1 snapshot ++ (record_encoding 1 segment ++ record_encoding 1 carry))) tail
      ∙ ap (λ (l : List ℕ). header_encoding first ++ l)
      (append_assoc (record_encoding 1 change)
      (record_encoding 1 snapshot ++ (record_encoding 1 segment ++ record_encoding 1 carry)) tail
      ∙ ap (λ (l : List ℕ). record_encoding 1 change ++ l)
      (append_assoc (record_encoding 1 snapshot) (record_encoding 1 segment ++ record_encoding 1 carry) tail
      ∙ ap (λ (l : List ℕ). record_encoding 1 snapshot ++ l)
      (append_assoc (record_encoding 1 segment) (record_encoding 1 carry) tail)))

  module _ (header-again : (h : Header) (rest : List ℕ) → IsHeader h → header_at (header_encoding h ++ rest) ≡ Ok h)
      (header-long : (h : Header) → length (header_encoding h) ≡ 38) where
    log-text : (tail : List ℕ) → AreBytes (worked_log ++ tail) → length tail < 17
        → file_text 1 (worked_log ++ tail)
        ≡ record_text 1 38 change ++ (record_text 1 84 snapshot ++ (record_text 1 141 segment
        ++ (record_text 1 190 carry ++ end_text 1 268)))
    unfolding file_text
    log-text tail are less =
        ap (λ (bs : List ℕ). headed_text 1 bs (header_at bs)) (in-pieces tail)
        ∙ ap (headed_text 1 (header_encoding first ++ four tail))
        (header-again first (four tail) (omega arith, omega arith, omega arith))
        ∙ ap (λ (bs : List ℕ). records_text 1 38 (records (wal []) 1 bs))
        (drop_at (header_encoding first) (four tail) 38 (header-long first))
        ∙ lines tail
        (bytes-after (header_encoding first) (four tail) (subst AreBytes (in-pieces tail) are)) less

    pub dumped : (d : Disk) (tail torn other : List ℕ) (version : ℕ)
        → IsListing d (log_of 1 ∷ log_of 2 ∷ log_of 3 ∷ record { kind = Segment; number = 6 } ∷ [])
        → contents d (log_of 1) ≡ Some (worked_log ++ tail) → length tail < 17 → AreBytes (worked_log ++ tail)
        → contents d (log_of 2) ≡ Some torn → length torn < 38 → contents d (log_of 3) ≡ Some other
        → header_at other ≡ Err (no_header.Version version)
        → dump_text (log_files d)
        ≡ codes "1 38 change 1 1 21\n1 84 snapshot 2 7 32\n1 141 segment 30 12 24\n"
        ++ codes "1 190 carry 1 1 53\nend 1 268\nend 2 0\nend 3 0\n"
    unfolding digits
    dumped d tail torn other version listing one less are two short three another =
        ap dump_text (sym (listed-are d _ listing small))
        ∙ ap (λ (l : List ℕ). l ++ (file_text 2 (content d (log_of 2)) ++ (file_text 3 (content d (log_of 3)) ++ [])))
        (ap (file_text 1) (shown-bytes (contents d (log_of 1)) (worked_log ++ tail) one) ∙ log-text tail are less)
        ∙ ap (λ (l : List ℕ). (record_text 1 38 change ++ (record_text 1 84 snapshot ++ (record_text 1 141 segment
        ++ (record_text 1 190 carry ++ end_text 1 268)))) ++ (l ++ (file_text 3 (content d (log_of 3)) ++ [])))
        (ap (file_text 2) (shown-bytes (contents d (log_of 2)) torn two)
        ∙ headless 2 torn no_header.Short (no-header torn short))
        ∙ ap (λ (l : List ℕ). (record_text 1 38 change ++ (record_text 1 84 snapshot ++ (record_text 1 141 segment
        ++ (record_text 1 190 carry ++ end_text 1 268)))) ++ (end_text 2 0 ++ (l ++ [])))
        (ap (file_text 3) (shown-bytes (contents d (log_of 3)) other three)
        ∙ headless 3 other (no_header.Version version) another)
      where
        small : (i : ℕ) → slice_index (1 ∷ 2 ∷ 3 ∷ []) i < 2 ^ 64
        small zero = omega arith
        small (suc zero) = omega arith
        small (suc (suc zero)) = omega arith
        small (suc (suc (suc i))) = omega arith
