-- The records of a file are read one behind the other.
use Rattle.std.proofs.Common.{◌≡◌, ◌<◌, ◌≤◌, ℕ, ◌+◌, Bool, cond, List, [], ◌∷◌, ◌++◌, length, drop, Option, Some, None, Result, refl, sym, ap, ◌∙◌, arith, append_assoc, append-nil, length-append, length-drop}
use Rattle.std.proofs.lemmas.Bool.{ne_eqb}
use Rattle.qq_base.specs.declared.ids.QueueId.{QueueId}
use Rattle.qq_base.specs.Fields.{AreBytes}
use Rattle.qq_wal_record.specs.declared.record.LogRecord.{LogRecord}
use Rattle.qq_wal_record.specs.declared.record.NoRecord.{NoRecord}
use Rattle.qq_wal_record.specs.Encoding.{record_encoding}
use Rattle.qq_wal_record.specs.Reading.{record_at}
use Rattle.qq_wal_chain.specs.Format.{IsFormat}
use Rattle.qq_wal_chain.specs.Records.{encode_all, records, end_of, file_records}
use Rattle.qq_wal_chain.specs.Chain.{records_up_to}
use Rattle.qq_wal_chain.specs.Wal.{wal, record_of, read_record}
use Rattle.qq_wal_chain.proofs.Codec.{real-same}
use Rattle.qq_wal_chain.proofs.Runs.{records-some, records-none}
use Rattle.qq_wal_chain.proofs.Running.{good-records}
use Rattle.qq_recover.specs.Placed.{Placed, placed}
use Rattle.qq_recover.specs.Files.{good_bytes, good_end}

-- what was read so far, and what is read of the rest, is what is read of all
pub record ReadsOn (queues : List QueueId) (n start : ℕ) (bytes : List ℕ) (found : List Placed) (place : ℕ)
    (rest : List ℕ) : Type 0 where
  pub found_so : found ++ placed n place (records (wal queues) n rest) ≡ placed n start (records (wal queues) n bytes)
  pub end_so :
      place + length (encode_all (wal queues) n (records (wal queues) n rest))
      ≡ start + length (encode_all (wal queues) n (records (wal queues) n bytes))

pub begins : (queues : List QueueId) (n start : ℕ) (bytes : List ℕ) → ReadsOn queues n start bytes [] start bytes
begins queues n start bytes = record { found_so = refl; end_so = refl }

-- nothing is read where no record stands
pub ends : (queues : List QueueId) (n start : ℕ) (bytes : List ℕ) (found : List Placed) (place : ℕ) (rest : List ℕ)
    → records (wal queues) n rest ≡ [] → ReadsOn queues n start bytes found place rest
    → (found ≡ placed n start (records (wal queues) n bytes))
    × (place ≡ start + length (encode_all (wal queues) n (records (wal queues) n bytes)))
ends queues n start bytes found place rest none so = (
  sym (append-nil found) ∙ ap (λ (rs : List LogRecord). found ++ placed n place rs) (sym none) ∙ so.found_so,
  omega (arith, so.end_so, ap (λ (rs : List LogRecord). length (encode_all (wal queues) n rs)) none),
)

-- what is read of bytes
pub read-one : (n : ℕ) (rest : List ℕ) (o : Result (LogRecord × ℕ) NoRecord) → AreBytes rest → record_at n rest ≡ o
    → read_record n rest ≡ record_of o
read-one n rest o bytes e =
    ap (λ (bs : List ℕ). record_of (record_at n bs)) (real-same rest bytes) ∙ ap record_of e

module _ (queues : List QueueId) (laws : IsFormat (wal queues)) (n : ℕ) where
  pub goes-on : (start : ℕ) (bytes : List ℕ) (found : List Placed) (place : ℕ) (rest : List ℕ) (r : LogRecord)
      (taken : ℕ) → read_record n rest ≡ Some r → taken ≡ length (record_encoding n r)
      → ReadsOn queues n start bytes found place rest
      → ReadsOn queues n start bytes (found ++ record { place = place; entry = r } ∷ []) (place + taken)
      (drop taken rest)
  goes-on start bytes found place rest r taken e long so = record {
    found_so = append_assoc found (one ∷ []) (placed n (place + taken) later)
        ∙ ap (λ (t : ℕ). found ++ one ∷ placed n (place + t) later) long
        ∙ ap (λ (rs : List LogRecord). found ++ placed n place rs) (sym split) ∙ so.found_so;
    end_so = omega (
      arith,
      so.end_so,
      long,
      ap (λ (rs : List LogRecord). length (encode_all (wal queues) n rs)) split,
      length-append (record_encoding n r)
          (encode_all (wal queues) n later),
    );
  }
    where
      one : Placed
      one = record { place = place; entry = r }

      later : List LogRecord
      later = records (wal queues) n (drop taken rest)

      split : records (wal queues) n rest ≡ r ∷ later
      split =
          records-some (wal queues) laws n rest r e
          ∙ ap (λ (t : ℕ). r ∷ records (wal queues) n (drop t rest)) (sym long)

  -- less is left
  pub shorter : (rest : List ℕ) (r : LogRecord) (taken : ℕ) → taken ≡ length (record_encoding n r)
      → taken ≤ length rest → length (drop taken rest) < length rest
  shorter rest r taken long within = omega (arith, laws.some n r, length-drop taken rest)

  pub stops : (rest : List ℕ) → read_record n rest ≡ None → records (wal queues) n rest ≡ []
  stops rest e = records-none (wal queues) laws n rest e

  -- where a file is good that isn't said
  pub good-is : (bytes : List ℕ) → 0 < n
      → good_end queues n None bytes ≡ end_of (wal queues) n (file_records (wal queues) n bytes)
  good-is bytes some =
      ap (λ (none : Bool). cond none 0 (end_of (wal queues) n (file_records (wal queues) n bytes)))
      (ne_eqb n 0 (λ e. absurd (omega arith)))

  -- the records of the bytes that count
  pub counted : (good : Option ℕ) (bytes : List ℕ) → 0 < n
      → records_up_to (wal queues) n (good_end queues n good bytes) bytes
      ≡ records (wal queues) n (drop 38 (good_bytes good bytes))
  counted None bytes some =
      ap (λ (good : ℕ). records_up_to (wal queues) n good bytes) (good-is bytes some)
      ∙ good-records (wal queues) laws n bytes
  counted (Some good) bytes some = refl
