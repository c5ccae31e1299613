-- What is said of a log speaks of its log files alone.
use Rattle.std.proofs.Common.{◌≡◌, ℕ, List, [], Some, length, sym, subst, ap, ◌∙◌, unwrap_or}
use Rattle.std.specs.List.{AllByRecursion}
use Rattle.qq_base.specs.declared.ids.QueueId.{QueueId}
use Rattle.qq_disk.specs.Disk.{Disk, file_content}
use Rattle.qq_log.specs.declared.op.Op.{Op}
use Rattle.qq_wal_record.specs.declared.header.Header.{Header}
use Rattle.qq_wal_chain.specs.Image.{Files, files_of, shown_logs}
use Rattle.qq_wal_chain.specs.Chain.{reading}
use Rattle.qq_wal_chain.specs.Records.{encode_all, replay}
use Rattle.qq_wal_chain.specs.Promise.{IsLog, Keeps, found_behind, found_world, kept_records, pending_records}
use Rattle.qq_wal_chain.specs.Laws.{KeepsPromise, op_records}
use Rattle.qq_wal_chain.specs.Wal.{wal, Ours}
use Rattle.qq_wal.specs.declared.marks.Mark.{Mark}
use Rattle.qq_wal.specs.declared.numbers.Numbers.{Numbers}
use Rattle.qq_wal.specs.Running.{top, IsSynced, IsWrittenTo, SameLogs}
use Rattle.qq_wal.specs.Wal.{IsKept, IsOnDisk}

same-files : (d e : Disk) → SameLogs d e → files_of e ≡ files_of d
same-files d e same = λ i n. same n i

-- a log that is written to, with whole records that wait, said of files
IsLogOf : List QueueId → Header → Files → Type 0
IsLogOf queues h files =
    IsLog (wal queues) top h.file (Ours h) (found_behind (wal queues) top (Ours h) files)
    (kept_records (wal queues) h.file files)
    (encode_all (wal queues) h.file (pending_records (wal queues) h.file files)) files

module _ (queues : List QueueId) (d e : Disk) (same : SameLogs d e) where
  files : files_of d ≡ files_of e
  files = sym (same-files d e same)

  pub beside-written : (h : Header) → IsWrittenTo queues h d → IsWrittenTo queues h e
  unfolding IsLogOf
  beside-written h is = record {
    log = subst (IsLogOf queues h) files is.log;
    fit = subst (λ (fs : Files). AllByRecursion ((wal queues).Fits h.file) (pending_records (wal queues) h.file fs)) files
        is.fit;
  }

  pub beside-synced : (h : Header) → IsSynced queues h d → IsSynced queues h e
  beside-synced h is = subst (λ (fs : Files). pending_records (wal queues) h.file fs ≡ []) files is

  pub beside-on_disk : (h : Header) (marks : List Mark) (size : ℕ) (numbers : Numbers)
      → IsOnDisk queues h marks size numbers d → IsOnDisk queues h marks size numbers e
  beside-on_disk h marks size numbers on = record {
    log = beside-written h on.log;
    lanes = on.lanes;
    shown =
        ap (λ (fs : Files). found_world (wal queues) ((reading (wal queues) top (shown_logs fs)).found)) (sym files)
        ∙ on.shown;
    agree = on.agree;
    size_is = on.size_is ∙ ap (λ (fs : Files). length (unwrap_or (file_content (fs h.file)) [])) files;
    free = λ n above. ap file_content (same n) ∙ on.free n above;
  }

  pub beside-kept : (h : Header) (marks : List Mark) → IsKept queues h marks d → IsKept queues h marks e
  beside-kept h marks k = record {
    lanes = k.lanes;
    is =
        ap (λ (fs : Files). replay (wal queues) (kept_records (wal queues) h.file fs)
        (Some (found_behind (wal queues) top (Ours h) fs).world)) (sym files) ∙ k.is;
    each = k.each;
  }

  pub beside-keeps : (noticed given : List Op) → KeepsPromise queues top noticed given d
      → KeepsPromise queues top noticed given e
  beside-keeps noticed given keeps =
      subst (λ (fs : Files). Keeps (wal queues) top (op_records noticed) (op_records given) fs) files keeps
