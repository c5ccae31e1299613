-- A log that is written to is told by the disk alone, and there is one proof of it at most.
use Rattle.std.proofs.Common.{◌≡◌, ℕ, List, [], ◌++◌, Option, sym, ap, subst, ◌∙◌, append-nil, unwrap_or}
use Rattle.std.proofs.Props.{props}
use Rattle.qq_disk.specs.Disk.{Disk, FileState}
use Rattle.qq_base.specs.declared.ids.QueueId.{QueueId}
use Rattle.qq_wal_record.specs.declared.record.LogRecord.{LogRecord}
use Rattle.qq_wal_record.specs.declared.record.LogRecord.TheVariants.{Op as OpRecord, Carry as CarryRecord}
use Rattle.qq_wal_record.specs.Record.{IsWritable}
use Rattle.qq_entry.specs.declared.command.Entry.{Entry}
use Rattle.qq_entry.specs.declared.command.Command.{Command}
use Rattle.qq_entry.specs.declared.command.Command.TheVariants.{Enqueue, Subscribe}
use Rattle.qq_entry.specs.declared.command.Mode.TheVariants.{Prefetch, Link}
use Rattle.qq_entry.specs.declared.message.Message.{Message}
use Rattle.qq_entry.specs.Range.{IsCommand, HasContent, IsWhole, IsWritable as IsEntry}
use Rattle.qq_log.specs.declared.op.Op.TheVariants.{Change, SnapshotMade, SegmentMade}
use Rattle.qq_wal_chain.specs.Lanes.{Lanes}
use Rattle.qq_wal_chain.specs.Wal.{wal, WholeHeader, Ours, Another, RecordFits, HeaderFits}
use Rattle.qq_wal_chain.specs.Format.{Format, IsFormat}
use Rattle.qq_wal_chain.specs.Records.{encode_all, records, file_records}
use Rattle.qq_wal_chain.specs.Chain.{Found}
use Rattle.qq_wal_chain.specs.Image.{Files, files_of, shown_logs}
use Rattle.qq_wal_chain.specs.Promise.{IsLog, IsRunning, IsRunningLog, kept_records, pending_records, found_behind, file_bytes_of}
use Rattle.qq_wal_chain.proofs.Runs.{written-again, records-nil}
use Rattle.qq_wal_chain.proofs.Images.{shown-image}
use Rattle.qq_wal_chain.proofs.Running.{file_bytes, file-records}

module _ (F : Format) (laws : IsFormat F) (b n : ℕ) (h : F.Header) (before : Found F) (kept pending : List F.Record)
    (d : Disk) (running : IsRunning F b n h before kept pending d) where
  pub kept-told : kept_records F n (files_of d) ≡ kept
  kept-told =
      ap (λ (o : Option FileState). file_records F n (file_bytes_of (λ f. f.kept) o)) running.log.is
      ∙ ap (λ (bs : List ℕ). file_records F n bs) (sym (append-nil (file_bytes F laws n h kept)))
      ∙ file-records F laws n h kept [] running.log.header_fits running.log.fit
      ∙ ap (λ (l : List F.Record). kept ++ l) (records-nil F laws n) ∙ append-nil kept

  pub pending-told : pending_records F n (files_of d) ≡ pending
  pending-told =
      ap (λ (o : Option FileState). records F n (file_bytes_of (λ f. f.pending) o)) running.log.is
      ∙ written-again F laws n pending running.fit

  pub before-told : found_behind F b h (files_of d) ≡ before
  before-told =
      ap (λ (o : Option (Found F)). unwrap_or o (record { files = []; world = F.start }))
      (running.log.older (shown_logs (files_of d)) (shown-image F laws (files_of d)))

  pub running-told : IsRunningLog F b n h d
  running-told =
      subst (λ (l : List F.Record). IsRunning F b n h (found_behind F b h (files_of d))
      (kept_records F n (files_of d))
      l d) (sym pending-told)
      (subst (λ (l : List F.Record). IsRunning F b n h (found_behind F b h (files_of d)) l pending d) (sym kept-told)
      (subst (λ (f : Found F). IsRunning F b n h f kept pending d) (sym before-told) running))

pub log-prop : (F : Format) → IsSet F.World → ((n : ℕ) (r : F.Record) → IsProp (F.Fits n r))
    → ((h : F.Header) → IsProp (F.HeaderFits h)) → (b n : ℕ) (h : F.Header) (before : Found F) (kept : List F.Record)
    (pending : List ℕ) (files : Files) → IsProp (IsLog F b n h before kept pending files)
log-prop F set fits header_fits b n h before kept pending files = hlevel (props, set, fits, header_fits)

pub running-prop : (F : Format) → IsSet F.World → ((n : ℕ) (r : F.Record) → IsProp (F.Fits n r))
    → ((h : F.Header) → IsProp (F.HeaderFits h)) → (b n : ℕ) (h : F.Header) (before : Found F)
    (kept pending : List F.Record) (d : Disk) → IsProp (IsRunning F b n h before kept pending d)
running-prop F set fits header_fits b n h before kept pending d =
    hlevel (props, log-prop F set fits header_fits b n h before kept (encode_all F n pending) (files_of d), fits)

lanes-set : IsSet Lanes
lanes-set = hlevel props

whole-prop : (m : Message) → IsProp (IsWhole m)
whole-prop m = hlevel props

command-prop : (c : Command) → IsProp (IsCommand c)
command-prop (Enqueue stamp origin message) = hlevel props
command-prop (Subscribe stamp tag (Prefetch count)) = hlevel props
command-prop (Subscribe stamp tag Link) = hlevel props
command-prop _ = hlevel props

content-prop : (c : Command) → IsProp (HasContent c)
content-prop (Enqueue stamp origin message) = whole-prop message
content-prop _ = hlevel props

entry-prop : (e : Entry) → IsProp (IsEntry e)
entry-prop e = hlevel (props, command-prop e.command, content-prop e.command)

writable-prop : (r : LogRecord) → IsProp (IsWritable r)
writable-prop (OpRecord (Change id op term vote keep entries)) = hlevel (props, entry-prop)
writable-prop (OpRecord (SnapshotMade id op head file)) = hlevel props
writable-prop (OpRecord (SegmentMade id op file first last)) = hlevel props
writable-prop (CarryRecord c) = hlevel props

fits-prop : (n : ℕ) (r : LogRecord) → IsProp (RecordFits n r)
fits-prop n r = hlevel (props, writable-prop r)

header-prop : (h : WholeHeader) → IsProp (HeaderFits h)
header-prop (Ours h) = hlevel props
header-prop (Another version) = hlevel props

-- so a struct may keep it
pub wal-prop : (queues : List QueueId) (b n : ℕ) (h : WholeHeader) (d : Disk)
    → IsProp (IsRunningLog (wal queues) b n h d)
wal-prop queues b n h d =
    running-prop (wal queues) lanes-set fits-prop header-prop b n h (found_behind (wal queues) b h (files_of d))
    (kept_records (wal queues) n (files_of d)) (pending_records (wal queues) n (files_of d)) d
