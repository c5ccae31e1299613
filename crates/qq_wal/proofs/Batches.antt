-- Records that wait are of ops, and a batch of them is as the chain asks for it.
use Rattle.std.proofs.Common.{◌≡◌, ◌≤◌, ℕ, zero, suc, length, arith, Bool, List, [], ◌∷◌, ◌++◌, take, Option, Some, refl, sym, ap, subst, ◌∙◌, append-nil, IsTrue, option_map}
use Rattle.std.specs.List.{AllByRecursion, flat_map}
use Rattle.std.proofs.lemmas.List.{length-append}
use Rattle.qq_entry.specs.declared.command.Entry.{Entry}
use Rattle.qq_command.specs.Encoding.{encoding}
use Rattle.std.proofs.lemmas.List.Elements.{All-take, recursion_from_All}
use Rattle.qq_base.specs.declared.ids.QueueId.{QueueId}
use Rattle.qq_disk.specs.Disk.{Disk, FileState, set, sync, keep}
use Rattle.qq_disk.specs.Image.{log_of}
use Rattle.qq_disk.proofs.Names.{set-same}
use Rattle.qq_log.specs.declared.op.Op.{Op}
use Rattle.qq_wal_record.specs.declared.header.Header.{Header}
use Rattle.qq_wal_record.specs.declared.record.LogRecord.{LogRecord}
use Rattle.qq_wal_record.specs.declared.record.LogRecord.TheVariants.{Op as OpRecord, Carry as CarryRecord}
use Rattle.qq_wal_record.specs.Encoding.{record_encoding, header_encoding}
use Rattle.qq_wal_chain.specs.Format.{IsFormat}
use Rattle.qq_wal_chain.specs.Records.{encode_all}
use Rattle.qq_wal_chain.specs.Image.{files_of}
use Rattle.qq_wal_chain.specs.Promise.{log_file, kept_records}
use Rattle.qq_wal_chain.specs.Laws.{op_records, first_bytes}
use Rattle.qq_wal_chain.specs.Wal.{wal, Ours, RecordFits, encode_header}
use Rattle.qq_wal.specs.Batch.{encodings, FitsBatch, AllFitBatch}
use Rattle.qq_wal.specs.Running.{IsWrittenTo, IsSynced, IsBatchOf, MayNotice}
use Rattle.qq_wal.proofs.Steps.{sync-notices}

-- what is told of the disk before a call is told behind it
pub told_before : {old new : Bool} → new ≡ old → IsTrue new → IsTrue old
told_before same told = subst (λ (t : Bool). IsTrue t) same told

pub told_after : {old new : Bool} → new ≡ old → IsTrue old → IsTrue new
told_after same told = subst (λ (t : Bool). IsTrue t) (sym same) told

-- one behind the other, either way
pub same_bytes : (queues : List QueueId) (n : ℕ) (rs : List LogRecord) → encode_all (wal queues) n rs ≡ encodings n rs
same_bytes queues n [] = refl
same_bytes queues n (r ∷ rs) = ap (λ (bs : List ℕ). record_encoding n r ++ bs) (same_bytes queues n rs)

-- the first entries have no more bytes than all
pub part_len : (n : ℕ) (entries : List Entry)
    → length (flat_map encoding (take n entries)) ≤ length (flat_map encoding entries)
part_len zero entries = omega arith
part_len (suc n) [] = omega arith
part_len (suc n) (e ∷ entries) =
    omega (
      arith,
      part_len n entries,
      length-append (encoding e) (flat_map encoding (take n entries)),
      length-append (encoding e) (flat_map encoding entries),
    )

-- the ops of records that fit into batches
pub record OpsOf (rs : List LogRecord) : Type 0 where
  pub ops : List Op
  pub are : op_records ops ≡ rs

ops_by : (rs : List LogRecord) → AllByRecursion FitsBatch rs → OpsOf rs
ops_by [] fit = record { ops = []; are = refl }
ops_by (OpRecord op ∷ rs) fit =
    let later = ops_by rs fit.1 in
    record { ops = op ∷ later.ops; are = ap (λ (l : List LogRecord). OpRecord op ∷ l) later.are }
ops_by (CarryRecord carry ∷ rs) fit = absurd fit.0.2

pub ops_of : (count : ℕ) (rs : List LogRecord) → AllFitBatch rs → OpsOf (take count rs)
ops_of count rs fit =
    ops_by (take count rs) (recursion_from_All FitsBatch (take count rs) (All-take FitsBatch count rs fit))

-- records that were encoded are a batch
pub is_batch : (queues : List QueueId) (h : Header) (rs : List LogRecord) (bytes : List ℕ) → bytes ≡ encodings h.file rs
    → AllByRecursion (RecordFits h.file) rs → (batch : List Op) → op_records batch ≡ rs
    → IsBatchOf queues h batch bytes
is_batch queues h rs bytes same fit batch are = record {
  fits = subst (λ (l : List LogRecord). AllByRecursion (RecordFits h.file) l) (sym are) fit;
  is =
      same ∙ ap (λ (l : List LogRecord). encodings h.file l) (sym are)
      ∙ sym (same_bytes queues h.file (op_records batch));
}

-- a header, and carries behind it
pub first_is : (queues : List QueueId) (h : Header) (rs : List LogRecord) (empty first all : List ℕ) → empty ≡ []
    → first ≡ empty ++ header_encoding h → all ≡ first ++ encodings h.file rs
    → all ≡ first_bytes queues h.file (Ours h) rs
first_is queues h rs empty first all none header more =
    more ∙ ap (λ (bs : List ℕ). bs ++ encodings h.file rs) header
    ∙ ap (λ (bs : List ℕ). (bs ++ header_encoding h) ++ encodings h.file rs) none
    ∙ ap (λ (bs : List ℕ). header_encoding h ++ bs) (sym (same_bytes queues h.file rs))

-- where nothing waits for a sync, all that was given may be noticed
module _ (queues : List QueueId) (laws : IsFormat (wal queues)) (h : Header) (d : Disk)
    (running : IsWrittenTo queues h d) (clean : IsSynced queues h d) where
  -- the file as it is, with its bytes
  abbrev bytes : List ℕ
  bytes = encode_header (Ours h) ++ encode_all (wal queues) h.file (kept_records (wal queues) h.file (files_of d))

  here : d (log_of h.file) ≡ Some (log_file bytes [])
  here =
      running.log.is
      ∙ ap (λ (l : List LogRecord). Some (log_file bytes (encode_all (wal queues) h.file l))) clean

  keeps_file : option_map keep (d (log_of h.file)) ≡ d (log_of h.file)
  keeps_file =
      ap (λ (o : Option FileState). option_map keep o) here
      ∙ ap (λ (bs : List ℕ). Some (log_file bs [])) (append-nil bytes) ∙ sym here

  pub clean-notices : MayNotice queues d d
  clean-notices = sync-notices queues laws h d d running unchanged
    where
      unchanged : d ≡ sync d (log_of h.file)
      unchanged =
          sym (ap (λ (o : Option FileState). set d (log_of h.file) o) keeps_file ∙ set-same d (log_of h.file))
