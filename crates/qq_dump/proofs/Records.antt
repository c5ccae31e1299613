-- The text of a file's records, one behind the other.
use Rattle.std.proofs.Common.{◌≡◌, ◌<◌, ◌≤◌, ◌+◌, ◌++◌, ℕ, List, [], length, drop, Some, None, Result, sym, ap, ◌∙◌, arith, append_assoc, length-drop}
use Rattle.qq_base.specs.Fields.{AreBytes}
use Rattle.qq_wal_record.specs.declared.record.LogRecord.{LogRecord}
use Rattle.qq_wal_record.specs.declared.record.NoRecord.{NoRecord}
use Rattle.qq_wal_record.specs.Encoding.{record_encoding}
use Rattle.qq_wal_record.specs.Reading.{record_at}
use Rattle.qq_wal_chain.specs.Format.{IsFormat}
use Rattle.qq_wal_chain.specs.Records.{records}
use Rattle.qq_wal_chain.specs.Wal.{wal, record_of, read_record}
use Rattle.qq_wal_chain.proofs.Codec.{real-same}
use Rattle.qq_wal_chain.proofs.Runs.{records-some, records-none}
use Rattle.qq_dump.specs.Text.{end_text, record_text, records_text}

-- what is read of bytes
pub read-one : (file : ℕ) (bytes : List ℕ) (o : Result (LogRecord × ℕ) NoRecord) → AreBytes bytes
    → record_at file bytes ≡ o → read_record file bytes ≡ record_of o
read-one file bytes o are is =
    ap (λ (bs : List ℕ). record_of (record_at file bs)) (real-same bytes are) ∙ ap record_of is

module _ (laws : IsFormat (wal [])) (file : ℕ) where
  -- a record's line, and then those of the others
  pub one-more : (place : ℕ) (bytes : List ℕ) (r : LogRecord) (taken : ℕ) → read_record file bytes ≡ Some r
      → taken ≡ length (record_encoding file r)
      → records_text file place (records (wal []) file bytes)
      ≡ record_text file place r ++ records_text file (place + taken) (records (wal []) file (drop taken bytes))
  one-more place bytes r taken is long =
      ap (records_text file place) (records-some (wal []) laws file bytes r is)
      ∙ ap (λ (t : ℕ). record_text file place r ++ records_text file (place + t) (records (wal []) file (drop t bytes)))
      (sym long)

  pub no-more : (place : ℕ) (bytes : List ℕ) → read_record file bytes ≡ None
      → records_text file place (records (wal []) file bytes) ≡ end_text file place
  no-more place bytes is = ap (records_text file place) (records-none (wal []) laws file bytes is)

  -- less is left
  pub shorter : (bytes : List ℕ) (r : LogRecord) (taken : ℕ) → taken ≡ length (record_encoding file r)
      → taken ≤ length bytes → length (drop taken bytes) < length bytes
  shorter bytes r taken long within = omega (arith, laws.some file r, length-drop taken bytes, long)

  -- the lines so far and those of the rest, with a record more
  pub goes-on : (old new all : List ℕ) (place : ℕ) (bytes rest : List ℕ) (r : LogRecord) (taken : ℕ)
      → read_record file bytes ≡ Some r → taken ≡ length (record_encoding file r) → rest ≡ drop taken bytes
      → new ≡ old ++ record_text file place r
      → old ++ records_text file place (records (wal []) file bytes) ≡ all
      → new ++ records_text file (place + taken) (records (wal []) file rest) ≡ all
  goes-on old new all place bytes rest r taken is long left grown so =
      ap (λ (l : List ℕ). l ++ records_text file (place + taken) (records (wal []) file rest)) grown
      ∙ append_assoc old (record_text file place r) (records_text file (place + taken) (records (wal []) file rest))
      ∙ ap (λ (l : List ℕ). old
      ++ (record_text file place r ++ records_text file (place + taken) (records (wal []) file l)))
      left
      ∙ ap (λ (l : List ℕ). old ++ l) (sym (one-more place bytes r taken is long)) ∙ so
