-- A file that isn't read may go, and the log stays as it is.
use Rattle.std.proofs.Common.{◌≡◌, ℕ, Bool, true, false, cond, eqb, List, [], length, Option, Some, None, option_map, refl, sym, ap, ◌∙◌, inl, inr, subst, unwrap_or, IsTrue}
use Rattle.qq_base.specs.declared.ids.QueueId.{QueueId}
use Rattle.qq_disk.specs.Disk.{Disk, FileState, file_content, mark_removed, now}
use Rattle.qq_disk.specs.Facts.{DiskFacts}
use Rattle.qq_disk.specs.Image.{log_of}
use Rattle.qq_disk.specs.Moments.{Adds, IsRemoving}
use Rattle.qq_disk.proofs.Moments.{adds-weaker}
use Rattle.qq_wal_record.specs.declared.header.Header.{Header}
use Rattle.qq_wal_record.specs.declared.record.LogRecord.{LogRecord}
use Rattle.qq_wal_chain.specs.Chain.{Found}
use Rattle.qq_wal_chain.specs.Format.{IsFormat}
use Rattle.qq_wal_chain.specs.Image.{Files, files_of}
use Rattle.qq_wal_chain.specs.Promise.{IsRunning, Promises, found_behind, kept_records, pending_records}
use Rattle.qq_wal_chain.specs.Records.{encode_all, replay}
use Rattle.qq_wal_chain.specs.Wal.{wal, Ours}
use Rattle.qq_wal_chain.proofs.Alone.{before-told, kept-told, pending-told, running-told}
use Rattle.qq_wal_chain.proofs.Bridge.{remove-of-log}
use Rattle.qq_wal_chain.proofs.Calls.{remove-done, remove-moment}
use Rattle.qq_wal_chain.proofs.Growing.{log-shows-world}
use Rattle.qq_wal_chain.proofs.Walk.{put-other}
use Rattle.qq_wal.specs.declared.marks.Mark.{Mark}
use Rattle.qq_wal.specs.declared.numbers.Numbers.{Numbers}
use Rattle.qq_wal.specs.Running.{top, IsNoneOf, IsOutside, IsSynced, IsWrittenTo, MayRecover, Stays, lanes_shown}
use Rattle.qq_wal.specs.Wal.{IsKept, IsOnDisk, IsSound}
use Rattle.qq_wal.specs.declared.wal.Wal.{Wal}
use Rattle.qq_wal.proofs.Batches.{told_before}
use Rattle.qq_wal.proofs.Held.{kept-as}
use Rattle.qq_wal.proofs.Steps.{running-may}

marked-none : (o : Option FileState) → file_content (option_map mark_removed o) ≡ None
marked-none None = refl
marked-none (Some f) = refl

module _ (queues : List QueueId) (laws : IsFormat (wal queues)) (h : Header) (d e : Disk) (m : ℕ)
    (written : IsWrittenTo queues h d) (out : IsOutside queues h d m) (gone : IsRemoving d (log_of m) e) where
  abbrev behind : Found (wal queues)
  behind = found_behind (wal queues) top (Ours h) (files_of d)

  abbrev kept : List LogRecord
  kept = kept_records (wal queues) h.file (files_of d)

  abbrev pending : List LogRecord
  pending = pending_records (wal queues) h.file (files_of d)

  running : IsRunning (wal queues) top h.file (Ours h) behind kept pending e
  running = record {
    log = remove-done (wal queues) laws top h.file (Ours h) behind kept (encode_all (wal queues) h.file pending) d
        written.log m out.0 out.1 e gone;
    fit = written.fit;
  }

  pub still-outside : (k : ℕ) → IsOutside queues h d k → IsOutside queues h e k
  still-outside k is = (
    is.0,
    subst (λ (f : Found (wal queues)). IsNoneOf f.files k)
        (sym (before-told (wal queues) laws top h.file (Ours h) behind kept pending e running)) is.1,
  )

  pub still-written : IsWrittenTo queues h e
  still-written = running-told (wal queues) laws top h.file (Ours h) behind kept pending e running

  pub still-may : MayRecover queues e
  still-may = running-may queues laws h e still-written

  pub still-shown : lanes_shown queues e ≡ lanes_shown queues d
  still-shown =
      log-shows-world (wal queues) laws top h.file (Ours h) behind kept pending (files_of e) running.log running.fit
      ∙ sym (log-shows-world (wal queues) laws top h.file (Ours h) behind kept pending (files_of d) written.log
      written.fit)

  own-file : files_of e h.file ≡ files_of d h.file
  own-file = by gone
    where
      by : IsRemoving d (log_of m) e → files_of e h.file ≡ files_of d h.file
      by (inl same) = ap (λ (d : Disk). d (log_of h.file)) same
      by (inr same) =
          ap (λ (files : Files). files h.file) (ap files_of same ∙ remove-of-log d m)
          ∙ put-other (files_of d) m h.file (option_map mark_removed (files_of d m)) out.0

  still-free : (n : ℕ) → file_content (files_of d n) ≡ None → file_content (files_of e n) ≡ None
  still-free n free = by gone
    where
      at : files_of e n ≡ cond (eqb m n) (option_map mark_removed (files_of d m)) (files_of d n)
          → (t : Bool) → eqb m n ≡ t → file_content (files_of e n) ≡ None
      at is true same =
          ap file_content (is ∙ ap (λ (t : Bool). cond t (option_map mark_removed (files_of d m)) (files_of d n)) same)
          ∙ marked-none (files_of d m)
      at is false same =
          ap file_content (is ∙ ap (λ (t : Bool). cond t (option_map mark_removed (files_of d m)) (files_of d n)) same)
          ∙ free

      by : IsRemoving d (log_of m) e → file_content (files_of e n) ≡ None
      by (inl same) = ap (λ (d : Disk). file_content (d (log_of n))) same ∙ free
      by (inr same) = at (ap (λ (files : Files). files n) (ap files_of same ∙ remove-of-log d m)) (eqb m n) refl

  pub still-on_disk : (marks : List Mark) (size : ℕ) (numbers : Numbers) → IsOnDisk queues h marks size numbers d
      → IsOnDisk queues h marks size numbers e
  still-on_disk marks size numbers on = record {
    log = still-written;
    lanes = on.lanes;
    shown = still-shown ∙ on.shown;
    agree = on.agree;
    size_is =
        on.size_is ∙ sym (ap (λ (o : Option FileState). length (unwrap_or (file_content o) [])) own-file);
    free = λ n above. still-free n (on.free n above);
  }

  pub still-kept : (marks : List Mark) → IsKept queues h marks d → IsKept queues h marks e
  still-kept marks k =
      kept-as queues h h marks d e
      (ap (λ (l : List LogRecord). replay (wal queues) l
      (Some (found_behind (wal queues) top (Ours h) (files_of e)).world))
      (kept-told (wal queues) laws top h.file (Ours h) behind kept pending e running)
      ∙ ap (λ (f : Found (wal queues)). replay (wal queues) kept (Some f.world))
      (before-told (wal queues) laws top h.file (Ours h) behind kept pending e running)) k

  pub still-synced : IsSynced queues h d → IsSynced queues h e
  still-synced clean = pending-told (wal queues) laws top h.file (Ours h) behind kept pending e running ∙ clean

-- what was promised stays so meanwhile
pub removed-stays : (queues : List QueueId) → IsFormat (wal queues) → (h : Header) (m : ℕ) (old new : List Disk)
    → IsWrittenTo queues h (now old) → IsOutside queues h (now old) m
    → Adds (IsRemoving (now old) (log_of m)) old new → Stays queues old new
removed-stays queues laws h m old new written out a noticed given keeps =
    let files : Files = files_of (now old) in
    adds-weaker (IsRemoving (now old) (log_of m)) (Promises (wal queues) top noticed given) old new
    (λ e is. remove-moment (wal queues) laws top h.file (Ours h) (found_behind (wal queues) top (Ours h) files)
    (kept_records (wal queues) h.file files)
    (encode_all (wal queues) h.file (pending_records (wal queues) h.file files)) (now old) written.log m out.0 out.1
    noticed given e keeps is) a

-- and the log is sound
pub removed-sound : {D : Type 0} (facts : DiskFacts D) (w : Wal D) (d : D) (m : ℕ)
    → IsFormat (wal w.queues.items) → IsSound facts w → facts.tells d ≡ facts.tells w.disk
    → (IsTrue (facts.tells w.disk) → w.stopped ≡ false → IsOutside w.queues.items w.header (now (facts.past w.disk)) m
    × IsRemoving (now (facts.past w.disk)) (log_of m) (now (facts.past d)))
    → IsSound facts (record w { disk = d })
removed-sound facts w d m laws is same removes =
    let queues = w.queues.items in
    let before = now (facts.past w.disk) in
    let after = now (facts.past d) in
    record {
      waiting = is.waiting;
      follow = is.follow;
      queues_are = is.queues_are;
      carries = is.carries;
      number = is.number;
      counted = is.counted;
      named = is.named;
      on_disk = λ told going.
          let old = told_before same told in
          let r = removes old going in
          let on = is.on_disk old going in
          still-on_disk queues laws w.header before after m on.log r.0 r.1 w.marks w.size w.numbers on;
      synced = λ told going clean.
          let old = told_before same told in
          let r = removes old going in
          still-synced queues laws w.header before after m (is.on_disk old going).log r.0 r.1
          (is.synced old going clean);
      kept = λ told going.
          let old = told_before same told in
          let r = removes old going in
          still-kept queues laws w.header before after m (is.on_disk old going).log r.0 r.1 w.marks
          (is.kept old going);
    }
