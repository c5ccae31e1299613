-- What the calls of a disk keep of the promise, for a log that is written to.
use Rattle.std.proofs.Common.{◌≡◌, ◌≤◌, ◌<◌, ◌^◌, ◌+◌, arith, inl, ℕ, List, [], ◌++◌, length, Option, Some, refl, sym, ap, subst, ◌∙◌, append-nil, append_assoc, length-append, option_map, unwrap_or}
use Rattle.std.proofs.lemmas.List.{map-append}
use Rattle.qq_base.specs.declared.ids.QueueId.{QueueId}
use Rattle.qq_disk.specs.declared.name.FileName.{FileName}
use Rattle.qq_disk.specs.Disk.{Disk, FileState, now, append, sync, append_target, content, file_content, grow, keep}
use Rattle.qq_disk.specs.Image.{log_of}
use Rattle.qq_disk.specs.Moments.{Adds, IsAppending, IsSyncing}
use Rattle.qq_disk.proofs.Moments.{adds-then, adds-now}
use Rattle.qq_disk.proofs.Stored.{after_append}
use Rattle.qq_log.specs.declared.op.Op.{Op}
use Rattle.qq_wal_record.specs.declared.header.Header.{Header}
use Rattle.qq_wal_record.specs.declared.record.LogRecord.{LogRecord}
use Rattle.qq_wal_record.specs.declared.record.LogRecord.TheVariants.{Op as OpRecord}
use Rattle.qq_wal_chain.specs.Format.{IsFormat}
use Rattle.qq_wal_chain.specs.Lanes.{Lanes}
use Rattle.qq_wal_chain.specs.Chain.{Found}
use Rattle.qq_wal_chain.specs.Image.{Files, files_of, put}
use Rattle.qq_wal_chain.specs.Records.{encode_all, replay}
use Rattle.qq_wal_chain.specs.Promise.{Continues, IsRunning, Promises, found_behind, found_world, kept_records, pending_records}
use Rattle.qq_wal_chain.specs.Laws.{AreSound, op_records, first_bytes}
use Rattle.qq_wal_chain.specs.Wal.{wal, Ours, encode_header, no_lanes}
use Rattle.qq_wal_chain.proofs.Alone.{before-told, kept-told, running-told, pending-told}
use Rattle.qq_wal_chain.proofs.Bridge.{append-log as append-files, sync-of-log}
use Rattle.qq_wal_chain.proofs.Calls.{begin-ignoring, begin-stays, begin-done, ignores-appending, ignores-syncing, sync-stays, sync-done, sync-noticed}
use Rattle.qq_wal_chain.proofs.Growing.{log-shows-world}
use Rattle.qq_wal_chain.proofs.Keeping.{log-ignores}
use Rattle.qq_wal_chain.proofs.Promised.{append-promised, append-runs}
use Rattle.qq_wal_chain.proofs.Replays.{replay-append, restated}
use Rattle.qq_wal_chain.proofs.Walk.{put-other}
use Rattle.qq_wal.specs.Running.{top, IsWrittenTo, IsSynced, Stays, StaysGiving, HoldsAlso, StillHolds, StillMayRecover, MayNotice, MayRecover, IsBatchOf, MayAdd, SameOthers, lanes_kept, lanes_shown, numbers_behind}

-- a number of 64 bits is no file's that is too great
pub in_top : (n : ℕ) → n < 2 ^ 64 → n ≤ top
unfolding top
in_top n h = omega (arith, h)

-- ---- what the disk shows

-- what was on it still is, where it shows the same
pub still-holds : (queues : List QueueId) (d e : Disk) → lanes_shown queues e ≡ lanes_shown queues d
    → StillHolds queues d e
still-holds queues d e same given holds = holds ∙ sym same

-- and where it shows what ops add to that, they are on it too
pub holds-also : (queues : List QueueId) (batch : List Op) (d e : Disk)
    → lanes_shown queues e ≡ replay (wal queues) (op_records batch) (lanes_shown queues d)
    → HoldsAlso queues batch d e
holds-also queues batch d e same given holds =
    ap (λ (l : List LogRecord). replay (wal queues) l (Some no_lanes)) (map-append OpRecord given batch)
    ∙ replay-append (wal queues) (op_records given) (op_records batch) (Some no_lanes)
    ∙ ap (λ (o : Option Lanes). replay (wal queues) (op_records batch) o) holds ∙ sym same

sound-also : (queues : List QueueId) (batch given : List Op) (d : Disk) → MayAdd queues batch d
    → replay (wal queues) (op_records given) (Some no_lanes) ≡ lanes_shown queues d → AreSound queues (given ++ batch)
sound-also queues batch given d may holds = (
  may.0,
  ap (λ (l : List LogRecord). replay (wal queues) l (Some no_lanes)) (map-append OpRecord given batch)
      ∙ replay-append (wal queues) (op_records given) (op_records batch) (Some no_lanes)
      ∙ ap (λ (o : Option Lanes). replay (wal queues) (op_records batch) o) holds ∙ may.1,
)

-- ---- the other files

others-put : (n : ℕ) (d e : Disk) (o : Option FileState) → files_of e ≡ put (files_of d) n o → SameOthers n d e
others-put n d e o same m apart =
    ap (λ (files : Files). files m) same ∙ put-other (files_of d) n m o apart

pub append-others : (n : ℕ) (bytes : List ℕ) (d e : Disk) → e ≡ append d (log_of n) bytes → SameOthers n d e
append-others n bytes d e same =
    others-put n d e (Some (grow (append_target (files_of d n)) bytes)) (ap files_of same ∙ append-files d n bytes)

pub sync-others : (n : ℕ) (d e : Disk) → e ≡ sync d (log_of n) → SameOthers n d e
sync-others n d e same =
    others-put n d e (option_map keep (files_of d n)) (ap files_of same ∙ sync-of-log d n)

-- what stays over two calls stays over both
pub stays-then : (queues : List QueueId) (old mid new : List Disk) → Stays queues old mid → Stays queues mid new
    → Stays queues old new
stays-then queues old mid new first second noticed given keeps =
    let P : Disk → Type 0 = Promises (wal queues) top noticed given in
    let a : Adds P old mid = first noticed given keeps in
    adds-then P old mid new a (second noticed given (adds-now P old mid a keeps))

-- a sync leaves a disk that may be recovered such a one
pub sync-may : (queues : List QueueId) → IsFormat (wal queues) → (old new : List Disk) (file : FileName)
    → Adds (IsSyncing (now old) file) old new → StillMayRecover queues old new
sync-may queues laws old new file a may =
    ignores-syncing (wal queues) laws top (now old) (now new) file may
    (adds-now (IsSyncing (now old) file) old new a (inl refl))

module _ (queues : List QueueId) (laws : IsFormat (wal queues)) (h : Header) where
  abbrev behind : Disk → Found (wal queues)
  behind d = found_behind (wal queues) top (Ours h) (files_of d)

  abbrev kept : Disk → List LogRecord
  kept d = kept_records (wal queues) h.file (files_of d)

  abbrev pending : Disk → List LogRecord
  pending d = pending_records (wal queues) h.file (files_of d)

  shows : (d : Disk) (before : Found (wal queues)) (kept pending : List LogRecord)
      → IsRunning (wal queues) top h.file (Ours h) before kept pending d
      → lanes_shown queues d ≡ replay (wal queues) (kept ++ pending) (Some before.world)
  shows d before kept pending running =
      log-shows-world (wal queues) laws top h.file (Ours h) before kept pending (files_of d) running.log running.fit

  -- ---- what a crash leaves of removed files

  pub running-may : (d : Disk) → IsWrittenTo queues h d → MayRecover queues d
  running-may d running =
      log-ignores (wal queues) laws top h.file (Ours h) (behind d) (kept d)
      (encode_all (wal queues) h.file (pending d)) (files_of d) running.log

  pub append-may : (bytes : List ℕ) (old new : List Disk) → IsWrittenTo queues h (now old)
      → Adds (IsAppending (now old) (log_of h.file) bytes) old new → MayRecover queues (now new)
  append-may bytes old new running a =
      ignores-appending (wal queues) laws top h.file (Ours h) (behind (now old)) (kept (now old)) (pending (now old))
      (now old) running.log running.fit bytes (now new)
      (adds-now (IsAppending (now old) (log_of h.file) bytes) old new a (inl refl))

  -- ---- a batch is appended

  module _ (batch : List Op) (bytes : List ℕ) (b : IsBatchOf queues h batch bytes) (old : List Disk)
      (running : IsWrittenTo queues h (now old)) where
    pub append-stays : MayAdd queues batch (now old) → (new : List Disk)
        → Adds (IsAppending (now old) (log_of h.file) bytes) old new → StaysGiving queues batch old new
    append-stays may new a noticed given keeps holds =
        append-promised queues laws top h.file (Ours h) (behind (now old)) (kept (now old)) (pending (now old))
        noticed given batch old new running keeps holds (sound-also queues batch given (now old) may holds) b.fits
        (subst (λ (bs : List ℕ). Adds (IsAppending (now old) (log_of h.file) bs) old new) b.is a)

    module _ (e : Disk) (same : e ≡ append (now old) (log_of h.file) bytes) where
      runs : IsRunning (wal queues) top h.file (Ours h) (behind (now old)) (kept (now old))
          (pending (now old) ++ op_records batch) e
      runs =
          append-runs queues laws top h.file (Ours h) (behind (now old)) (kept (now old)) (pending (now old)) batch
          (now old) e running b.fits (same ∙ ap (λ (bs : List ℕ). append (now old) (log_of h.file) bs) b.is)

      pub append-log : IsWrittenTo queues h e
      append-log =
          running-told (wal queues) laws top h.file (Ours h) (behind (now old)) (kept (now old))
          (pending (now old) ++ op_records batch) e runs

      pub append-shows : lanes_shown queues e
          ≡ replay (wal queues) (op_records batch) (lanes_shown queues (now old))
      append-shows =
          let world : Lanes = (behind (now old)).world in
          shows e (behind (now old)) (kept (now old)) (pending (now old) ++ op_records batch) runs
          ∙ ap (λ (l : List LogRecord). replay (wal queues) l (Some world))
          (sym (append_assoc (kept (now old)) (pending (now old)) (op_records batch)))
          ∙ replay-append (wal queues) (kept (now old) ++ pending (now old)) (op_records batch) (Some world)
          ∙ ap (λ (o : Option Lanes). replay (wal queues) (op_records batch) o)
          (sym (shows (now old) (behind (now old)) (kept (now old)) (pending (now old)) running))

      -- the kept part is as it was
      pub append-kept : lanes_kept queues h e ≡ lanes_kept queues h (now old)
      append-kept =
          ap (λ (l : List LogRecord). replay (wal queues) l (Some (behind e).world))
          (kept-told (wal queues) laws top h.file (Ours h) (behind (now old)) (kept (now old))
          (pending (now old) ++ op_records batch) e runs)
          ∙ ap (λ (f : Found (wal queues)). replay (wal queues) (kept (now old)) (Some f.world))
          (before-told (wal queues) laws top h.file (Ours h) (behind (now old)) (kept (now old))
          (pending (now old) ++ op_records batch) e runs)

  pub append-length : (bytes : List ℕ) (d e : Disk) → IsWrittenTo queues h d → e ≡ append d (log_of h.file) bytes
      → length (content e (log_of h.file)) ≡ length (content d (log_of h.file)) + length bytes
  append-length bytes d e running same =
      let first : List ℕ = encode_header (Ours h) ++ encode_all (wal queues) h.file (kept d) in
      let second : List ℕ = encode_all (wal queues) h.file (pending d) in
      let old : content d (log_of h.file) ≡ first ++ second =
      ap (λ (o : Option FileState). unwrap_or (file_content o) []) running.log.is in
      let new : content e (log_of h.file) ≡ first ++ (second ++ bytes) =
      ap (λ (d : Disk). content d (log_of h.file)) same
      ∙ ap (λ (o : Option FileState). unwrap_or (file_content o) [])
      (after_append (log_of h.file) first second d bytes running.log.is) in
      ap length (new ∙ sym (append_assoc first second bytes)) ∙ length-append (first ++ second) bytes
      ∙ ap (λ (bs : List ℕ). length bs + length bytes) (sym old)

  -- ---- it is synced

  module _ (d e : Disk) (running : IsWrittenTo queues h d) (same : e ≡ sync d (log_of h.file)) where
    synced : IsRunning (wal queues) top h.file (Ours h) (behind d) (kept d ++ pending d) [] e
    synced = record {
      log = sync-done (wal queues) laws top h.file (Ours h) (behind d) (kept d) (pending d) d running.log running.fit
          e same;
      fit = tt;
    }

    pub sync-log : IsWrittenTo queues h e × IsSynced queues h e
    sync-log = (
      running-told (wal queues) laws top h.file (Ours h) (behind d) (kept d ++ pending d) [] e synced,
      pending-told (wal queues) laws top h.file (Ours h) (behind d) (kept d ++ pending d) [] e synced,
    )

    pub sync-notices : MayNotice queues d e
    sync-notices noticed given keeps holds =
        sync-noticed (wal queues) laws top h.file (Ours h) (behind d) (kept d) (pending d) d running.log running.fit
        (op_records noticed) (op_records given) e keeps holds same

  -- ---- a new file

  module _ (before : Found (wal queues)) (carries : List LogRecord) (bytes : List ℕ) (old : List Disk)
      (goes_on : Continues (wal queues) top before h.file (Ours h) carries (files_of (now old)))
      (is : bytes ≡ first_bytes queues h.file (Ours h) carries) where
    pub first-stays : (mid : List Disk) → Adds (IsAppending (now old) (log_of h.file) bytes) old mid
        → Stays queues old mid
    first-stays mid a =
        begin-stays (wal queues) laws top before h.file (Ours h) carries (now old) goes_on old
        mid refl (subst (λ (bs : List ℕ). Adds (IsAppending (now old) (log_of h.file) bs) old mid) is a)

    pub new-stays : (mid new : List Disk) → Adds (IsAppending (now old) (log_of h.file) bytes) old mid
        → Adds (IsSyncing (now mid) (log_of h.file)) mid new → Stays queues old new
    new-stays mid new a s =
        stays-then queues old mid new (first-stays mid a)
        (sync-stays (wal queues) laws top mid new (log_of h.file) s)

    pub first-may : (mid : List Disk) → Adds (IsAppending (now old) (log_of h.file) bytes) old mid
        → MayRecover queues (now mid)
    first-may mid a =
        begin-ignoring (wal queues) laws top before h.file (Ours h) carries (now old) goes_on (now mid)
        (subst (λ (bs : List ℕ). IsAppending (now old) (log_of h.file) bs (now mid)) is
        (adds-now (IsAppending (now old) (log_of h.file) bytes) old mid a (inl refl)))

    pub new-may : (mid new : List Disk) → Adds (IsAppending (now old) (log_of h.file) bytes) old mid
        → Adds (IsSyncing (now mid) (log_of h.file)) mid new → MayRecover queues (now new)
    new-may mid new a s = sync-may queues laws mid new (log_of h.file) s (first-may mid a)

    module _ (mid e : Disk) (first : mid ≡ append (now old) (log_of h.file) bytes)
        (second : e ≡ sync mid (log_of h.file)) where
      begun : IsRunning (wal queues) top h.file (Ours h) before carries [] e
      begun = record {
        log = begin-done (wal queues) laws top before h.file (Ours h) carries (now old)
            goes_on mid e (first ∙ ap (λ (bs : List ℕ). append (now old) (log_of h.file) bs) is) second;
        fit = tt;
      }

      pub new-log : IsWrittenTo queues h e × IsSynced queues h e
      new-log = (
        running-told (wal queues) laws top h.file (Ours h) before carries [] e begun,
        pending-told (wal queues) laws top h.file (Ours h) before carries [] e begun,
      )

      pub new-behind : numbers_behind queues h e ≡ before.files
      new-behind =
          ap (λ (f : Found (wal queues)). f.files)
          (before-told (wal queues) laws top h.file (Ours h) before carries [] e begun)

      pub new-shows : lanes_shown queues e ≡ lanes_shown queues (now old)
      new-shows =
          shows e before carries [] begun
          ∙ ap (λ (l : List LogRecord). replay (wal queues) l (Some before.world)) (append-nil carries)
          ∙ restated (wal queues) before.world carries goes_on.restate
          ∙ sym (ap (λ (f : Option (Found (wal queues))). found_world (wal queues) f) goes_on.found)

      pub new-length : length (content e (log_of h.file)) ≡ length bytes
      new-length =
          ap (λ (o : Option FileState). length (unwrap_or (file_content o) [])) begun.log.is
          ∙ ap length (append-nil (encode_header (Ours h) ++ encode_all (wal queues) h.file carries))
          ∙ sym (ap length is)

      pub new-others : SameOthers h.file (now old) e
      new-others m apart =
          sync-others h.file mid e second m apart ∙ append-others h.file bytes (now old) mid first m apart
