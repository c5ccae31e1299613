-- What the calls of a disk make of a log, and of what was promised of it at each moment.
use Rattle.std.proofs.Common.{◌<◌, ◌≤◌, ◌≡◌, ℕ, Bool, true, false, cond, eqb, List, [], ◌∷◌, ◌++◌, take, Option, Some, None, refl, sym, ap, subst, ◌∙◌, inl, inr, ◌⊎◌, option_map, append_assoc, append-nil}
use Rattle.std.specs.List.{AllByRecursion}
use Rattle.qq_disk.specs.declared.name.FileName.{FileName}
use Rattle.qq_disk.specs.Name.{same_name}
use Rattle.qq_disk.specs.Disk.{Disk, FileState, now, set, append, sync, append_target, new_file, grow, keep, whole, file_content}
use Rattle.qq_disk.specs.Image.{log_of}
use Rattle.qq_disk.specs.Moments.{Adds, IsAppending, IsSyncing, IsRemoving}
use Rattle.qq_disk.proofs.Moments.{adds-weaker}
use Rattle.qq_wal_chain.specs.Format.{Format, IsFormat}
use Rattle.qq_wal_chain.specs.Records.{Restate, encode_all, end_of, replay}
use Rattle.qq_wal_chain.specs.Chain.{Found, Reading, add_file, reading}
use Rattle.qq_wal_chain.specs.Image.{Files, files_of, put, shown_logs}
use Rattle.qq_wal_chain.specs.Promise.{Continues, Holds, IgnoresRemoved, IsLog, IsRunning, IsSteady, Keeps, Promises, Recovers, StaysPromised, found_world, log_file}
use Rattle.qq_base.proofs.Fronts.{front-refl, front-more, front-take}
use Rattle.qq_wal_chain.proofs.Replays.{replay-append, restated, IsSome}
use Rattle.qq_wal_chain.proofs.Walk.{put-at}
use Rattle.qq_wal_chain.proofs.Images.{shown-image}
use Rattle.qq_wal_chain.proofs.Running.{file_bytes, log-put}
use Rattle.qq_wal_chain.proofs.Keeping.{keeps-weaker, log-ignores, log-steady}
use Rattle.qq_wal_chain.proofs.Growing.{grow-keeps, grow-log, sync-log, sync-notices, log-shows-world}
use Rattle.qq_wal_chain.proofs.Beginning.{begins, new_log, begin-ignores, begin-keeps, begin-log, steady-ignores}
use Rattle.qq_wal_chain.proofs.Recovery.{sync-ignores, sync-keeps, remove-log, remove-keeps}
use Rattle.qq_wal_chain.proofs.Bridge.{append-log, sync-of-log, remove-of-log, which-kind, IsLogName, set-other-kind}

put-put : {A : Type 0} (f : ℕ → A) (n : ℕ) (a b : A) → put (put f n a) n b ≡ put f n b
put-put {A} f n a b = λ i m. same (eqb n m) (f m) i
  where
    same : (t : Bool) (c : A) → cond t b (cond t a c) ≡ cond t b c
    same true c = refl
    same false c = refl

-- ---- any file

-- and the log goes on
pub other-kind-runs :
    (F : Format) (b n : ℕ) (h : F.Header) (before : Found F) (kept pending : List F.Record) (d : Disk)
    (file : FileName) (o : Option FileState) → ((n : ℕ) → same_name file (log_of n) ≡ false)
    → IsRunning F b n h before kept pending d → IsRunning F b n h before kept pending (set d file o)
other-kind-runs F b n h before kept pending d file o apart running = record {
  log = subst (λ (files : Files). IsLog F b n h before kept (encode_all F n pending) files)
      (sym (set-other-kind d file o apart)) running.log;
  fit = running.fit;
}

module _ (F : Format) (laws : IsFormat F) (b : ℕ) where
  -- a change of a file that isn't a log's plays no part
  pub other-kind-keeps : (noticed given : List F.Record) (d : Disk) (file : FileName) (o : Option FileState)
      → ((n : ℕ) → same_name file (log_of n) ≡ false) → Promises F b noticed given d
      → Promises F b noticed given (set d file o)
  other-kind-keeps noticed given d file o apart keeps =
      subst (λ (files : Files). Keeps F b noticed given files) (sym (set-other-kind d file o apart)) keeps

  pub sync-any : (noticed given : List F.Record) (d : Disk) (file : FileName) → Promises F b noticed given d
      → Promises F b noticed given (sync d file)
  sync-any noticed given d file keeps = by (which-kind file)
    where
      by : IsLogName file ⊎ ((n : ℕ) → same_name file (log_of n) ≡ false) → Promises F b noticed given (sync d file)
      by (inl log) =
          subst (λ (file : FileName). Promises F b noticed given (sync d file)) (sym log.is)
          (subst (λ (files : Files). Keeps F b noticed given files) (sym (sync-of-log d log.number))
          (sync-keeps F laws b log.number noticed given (files_of d) keeps))
      by (inr apart) = other-kind-keeps noticed given d file (option_map keep (d file)) apart keeps

  pub sync-moment : (noticed given : List F.Record) (d e : Disk) (file : FileName) → Promises F b noticed given d
      → IsSyncing d file e → Promises F b noticed given e
  sync-moment noticed given d e file keeps (inl same) =
      subst (λ (d : Disk). Promises F b noticed given d) (sym same) keeps
  sync-moment noticed given d e file keeps (inr same) =
      subst (λ (d : Disk). Promises F b noticed given d) (sym same) (sync-any noticed given d file keeps)

  -- and removed files have no say after it
  pub ignores-sync : (d : Disk) (file : FileName) → IgnoresRemoved F b (files_of d)
      → IgnoresRemoved F b (files_of (sync d file))
  ignores-sync d file ignores = by (which-kind file)
    where
      by : IsLogName file ⊎ ((n : ℕ) → same_name file (log_of n) ≡ false) → IgnoresRemoved F b (files_of (sync d file))
      by (inl log) =
          subst (λ (file : FileName). IgnoresRemoved F b (files_of (sync d file))) (sym log.is)
          (subst (λ (files : Files). IgnoresRemoved F b files) (sym (sync-of-log d log.number))
          (sync-ignores F laws b log.number (files_of d) ignores))
      by (inr apart) =
          subst (λ (files : Files). IgnoresRemoved F b files)
          (sym (set-other-kind d file (option_map keep (d file)) apart)) ignores

  pub ignores-syncing : (d e : Disk) (file : FileName) → IgnoresRemoved F b (files_of d) → IsSyncing d file e
      → IgnoresRemoved F b (files_of e)
  ignores-syncing d e file ignores (inl same) =
      subst (λ (d : Disk). IgnoresRemoved F b (files_of d)) (sym same) ignores
  ignores-syncing d e file ignores (inr same) =
      subst (λ (d : Disk). IgnoresRemoved F b (files_of d)) (sym same) (ignores-sync d file ignores)

  -- a sync of any file keeps what was promised
  pub sync-stays : (old new : List Disk) (file : FileName) → Adds (IsSyncing (now old) file) old new
      → StaysPromised F b old new
  sync-stays old new file a noticed given keeps =
      adds-weaker (IsSyncing (now old) file) (Promises F b noticed given) old new
      (λ e. sync-moment noticed given (now old) e file keeps) a

-- ---- a log that is written to

module _ (F : Format) (laws : IsFormat F) (b n : ℕ) (h : F.Header) (before : Found F) (kept pending : List F.Record)
    (d : Disk) (log : IsLog F b n h before kept (encode_all F n pending) (files_of d))
    (fit : AllByRecursion (F.Fits n) pending) where
  append-files : (bytes : List ℕ) → files_of (append d (log_of n) bytes)
      ≡ put (files_of d) n (Some (log_file (file_bytes F laws n h kept) (encode_all F n pending ++ bytes)))
  append-files bytes =
      append-log d n bytes ∙ ap (λ (o : Option FileState). put (files_of d) n (Some (grow (append_target o) bytes)))
      log.is

  sync-files : files_of (sync d (log_of n))
      ≡ put (files_of d) n (Some (whole (file_bytes F laws n h kept ++ encode_all F n pending)))
  sync-files =
      sync-of-log d n ∙ ap (λ (o : Option FileState). put (files_of d) n (option_map keep o)) log.is

  -- what the disk shows
  pub holds-world : (given : List F.Record) → Holds F b given d
      → replay F given (Some F.start) ≡ replay F (kept ++ pending) (Some before.world)
  holds-world given holds =
      holds ∙ log-shows-world F laws b n h before kept pending (files_of d) log fit

  pub append-moment : (noticed given batch : List F.Record) (e : Disk) → Promises F b noticed given d
      → Holds F b given d → IsSome F (replay F (given ++ batch) (Some F.start)) → AllByRecursion (F.Fits n) batch
      → IsAppending d (log_of n) (encode_all F n batch) e → Promises F b noticed (given ++ batch) e
  append-moment noticed given batch e keeps holds some fits (inl same) =
      subst (λ (d : Disk). Promises F b noticed (given ++ batch) d) (sym same)
      (keeps-weaker F b noticed given noticed (given ++ batch) (files_of d) (front-refl noticed)
      (front-more given batch) keeps)
  append-moment noticed given batch e keeps holds some fits (inr (count, same)) =
      subst (λ (files : Files). Keeps F b noticed (given ++ batch) files)
      (sym (ap files_of same ∙ append-files (take count (encode_all F n batch))))
      (grow-keeps F laws b n h before kept pending (files_of d) log fit noticed given batch
      (take count (encode_all F n batch)) keeps (holds-world given holds) some fits
      (front-take count (encode_all F n batch)))

  pub ignores-appending : (bytes : List ℕ) (e : Disk) → IsAppending d (log_of n) bytes e
      → IgnoresRemoved F b (files_of e)
  ignores-appending bytes e (inl same) =
      subst (λ (d : Disk). IgnoresRemoved F b (files_of d)) (sym same)
      (log-ignores F laws b n h before kept (encode_all F n pending) (files_of d) log)
  ignores-appending bytes e (inr (count, same)) =
      let more : List ℕ = encode_all F n pending ++ take count bytes in
      let files : Files = put (files_of d) n (Some (log_file (file_bytes F laws n h kept) more)) in
      subst (λ (files : Files). IgnoresRemoved F b files) (sym (ap files_of same ∙ append-files (take count bytes)))
      (log-ignores F laws b n h before kept more files
      (log-put F laws b n h before kept (encode_all F n pending) (files_of d) log kept more log.fit))

  -- once a batch is appended
  pub append-done : (batch : List F.Record) (e : Disk) → e ≡ append d (log_of n) (encode_all F n batch)
      → IsLog F b n h before kept (encode_all F n (pending ++ batch)) (files_of e)
  append-done batch e same =
      subst (λ (files : Files). IsLog F b n h before kept (encode_all F n (pending ++ batch)) files)
      (sym (ap files_of same ∙ append-files (encode_all F n batch)))
      (grow-log F laws b n h before kept pending (files_of d) log fit batch)

  -- once it is synced
  pub sync-done : (e : Disk) → e ≡ sync d (log_of n) → IsLog F b n h before (kept ++ pending) [] (files_of e)
  sync-done e same =
      subst (λ (files : Files). IsLog F b n h before (kept ++ pending) [] files) (sym (ap files_of same ∙ sync-files))
      (sync-log F laws b n h before kept pending (files_of d) log fit)

  pub sync-noticed : (noticed given : List F.Record) (e : Disk) → Promises F b noticed given d → Holds F b given d
      → e ≡ sync d (log_of n) → Promises F b given given e
  sync-noticed noticed given e keeps holds same =
      subst (λ (files : Files). Keeps F b given given files) (sym (ap files_of same ∙ sync-files))
      (sync-notices F laws b n h before kept pending (files_of d) log fit noticed given keeps
      (holds-world given holds))

module _ (F : Format) (laws : IsFormat F) (b n : ℕ) (h : F.Header) (before : Found F) (kept pending : List F.Record)
    (d : Disk) (log : IsLog F b n h before kept (encode_all F n pending) (files_of d))
    (fit : AllByRecursion (F.Fits n) pending) where
  pub append-holds : (given batch : List F.Record) (e : Disk) → AllByRecursion (F.Fits n) (pending ++ batch)
      → Holds F b given d → e ≡ append d (log_of n) (encode_all F n batch) → Holds F b (given ++ batch) e
  append-holds given batch e fits holds same =
      replay-append F given batch (Some F.start)
      ∙ ap (λ (o : Option F.World). replay F batch o)
      (holds-world F laws b n h before kept pending d log fit given holds)
      ∙ sym (replay-append F (kept ++ pending) batch (Some before.world))
      ∙ ap (λ (l : List F.Record). replay F l (Some before.world)) (append_assoc kept pending batch)
      ∙ sym (log-shows-world F laws b n h before kept (pending ++ batch) (files_of e)
      (append-done F laws b n h before kept pending d log fit batch e same) fits)

  pub sync-holds : (given : List F.Record) (e : Disk) → Holds F b given d → e ≡ sync d (log_of n) → Holds F b given e
  sync-holds given e holds same =
      holds-world F laws b n h before kept pending d log fit given holds
      ∙ ap (λ (l : List F.Record). replay F l (Some before.world)) (sym (append-nil (kept ++ pending)))
      ∙ sym (log-shows-world F laws b n h before (kept ++ pending) [] (files_of e)
      (sync-done F laws b n h before kept pending d log fit e same) tt)

-- a log with nothing that waits for a sync reads the same in each image
pub running-settled : (F : Format) (laws : IsFormat F) (b n : ℕ) (h : F.Header) (before : Found F)
    (kept : List F.Record)
    (d : Disk) → IsLog F b n h before kept [] (files_of d)
    → IsSteady F b (reading F b (shown_logs (files_of d))) (files_of d)
running-settled F laws b n h before kept d log L image =
    log-steady F laws b n h before kept [] (files_of d) log refl L image
    ∙ sym (log-steady F laws b n h before kept [] (files_of d) log refl (shown_logs (files_of d))
    (shown-image F laws (files_of d)))

-- and what it reads
pub running-reads :
    (F : Format) (laws : IsFormat F) (b n : ℕ) (h : F.Header) (before : Found F) (kept : List F.Record)
    (d : Disk) → IsLog F b n h before kept [] (files_of d)
    → reading F b (shown_logs (files_of d))
    ≡ record { file = n; good = end_of F n kept; found = add_file F n kept (Some before) }
running-reads F laws b n h before kept d log =
    log-steady F laws b n h before kept [] (files_of d) log refl (shown_logs (files_of d))
    (shown-image F laws (files_of d))

-- so a new file may follow
pub roll-continues : (F : Format) (laws : IsFormat F) (b n m : ℕ) (h next : F.Header) (before : Found F)
    (kept carries : List F.Record) (world : F.World) (d : Disk) → IsLog F b n h before kept [] (files_of d)
    → replay F kept (Some before.world) ≡ Some world → n < m → m ≤ b → file_content (files_of d m) ≡ None
    → F.number next ≡ m → F.previous next ≡ n → F.good next ≡ end_of F n kept → F.HeaderFits next
    → AllByRecursion (F.Fits m) carries → Restate F world carries
    → Continues F b (record { files = n ∷ before.files; world = world }) m next carries (files_of d)
roll-continues F laws b n m h next before kept carries world d log value newer within free number previous good fits
    fit
    restate =
    let reads = running-reads F laws b n h before kept d log in
    record {
      settled = running-settled F laws b n h before kept d log;
      found = ap (λ (r : Reading F). r.found) reads ∙ ap (λ (w : Option F.World). option_map made w) value;
      newer = subst (λ (k : ℕ). k < m) (sym (ap (λ (r : Reading F). r.file) reads)) newer;
      within = within;
      free = free;
      number = number;
      previous = previous ∙ sym (ap (λ (r : Reading F). r.file) reads);
      good = good ∙ sym (ap (λ (r : Reading F). r.good) reads);
      header_fits = fits;
      fit = fit;
      restate = restate;
    }
  where
    made : F.World → Found F
    made world = record { files = n ∷ before.files; world = world }

-- ---- a new file

target-free : (o : Option FileState) → file_content o ≡ None → append_target o ≡ new_file
target-free None free = refl
target-free (Some f) free = by f.removed refl free
  where
    by : (t : Bool) → f.removed ≡ t → cond t None (Some (f.kept ++ f.pending)) ≡ None → cond t new_file f ≡ new_file
    by true e free = refl
    by false e free = absurd cc

module _ (F : Format) (laws : IsFormat F) (b : ℕ) (before : Found F) (n : ℕ) (h : F.Header) (carries : List F.Record)
    (d : Disk) (goes_on : Continues F b before n h carries (files_of d)) where
  begin-files : (bytes : List ℕ) → files_of (append d (log_of n) bytes) ≡ put (files_of d) n (Some (new_log bytes))
  begin-files bytes =
      append-log d n bytes
      ∙ ap (λ (f : FileState). put (files_of d) n (Some (grow f bytes))) (target-free (files_of d n) goes_on.free)

  -- what was promised, of what each image reads
  pub steady-recovers : (noticed given : List F.Record) → Promises F b noticed given d
      → Recovers F noticed given (found_world F ((reading F b (shown_logs (files_of d))).found))
  steady-recovers noticed given keeps =
      keeps.recovers (shown_logs (files_of d)) (shown-image F laws (files_of d))

  -- while the header and the carries are appended
  pub begin-moment : (noticed given : List F.Record) (e : Disk) → Promises F b noticed given d
      → IsAppending d (log_of n) (file_bytes F laws n h carries) e → Promises F b noticed given e
  begin-moment noticed given e keeps (inl same) =
      subst (λ (d : Disk). Promises F b noticed given d) (sym same) keeps
  begin-moment noticed given e keeps (inr (count, same)) =
      subst (λ (files : Files). Keeps F b noticed given files)
      (sym (ap files_of same ∙ begin-files (take count (file_bytes F laws n h carries))))
      (begin-keeps F laws b (reading F b (shown_logs (files_of d))) before n h carries (files_of d)
      (begins F b before n h carries (files_of d) goes_on) noticed given
      (take count (file_bytes F laws n h carries)) (front-take count (file_bytes F laws n h carries))
      (steady-recovers noticed given keeps))

  pub begin-ignoring : (e : Disk) → IsAppending d (log_of n) (file_bytes F laws n h carries) e
      → IgnoresRemoved F b (files_of e)
  begin-ignoring e (inl same) =
      subst (λ (d : Disk). IgnoresRemoved F b (files_of d)) (sym same)
      (steady-ignores F b (reading F b (shown_logs (files_of d))) (files_of d) goes_on.settled)
  begin-ignoring e (inr (count, same)) =
      subst (λ (files : Files). IgnoresRemoved F b files)
      (sym (ap files_of same ∙ begin-files (take count (file_bytes F laws n h carries))))
      (begin-ignores F laws b (reading F b (shown_logs (files_of d))) before n h carries (files_of d)
      (begins F b before n h carries (files_of d) goes_on)
      (take count (file_bytes F laws n h carries)) (front-take count (file_bytes F laws n h carries)))

  pub begin-stays : (old new : List Disk) → now old ≡ d
      → Adds (IsAppending (now old) (log_of n) (file_bytes F laws n h carries)) old new → StaysPromised F b old new
  begin-stays old new here a noticed given keeps =
      adds-weaker (IsAppending (now old) (log_of n) (file_bytes F laws n h carries)) (Promises F b noticed given) old
      new (λ e m. begin-moment noticed given e (subst (λ (d : Disk). Promises F b noticed given d) here keeps)
      (subst (λ (d : Disk). IsAppending d (log_of n) (file_bytes F laws n h carries) e) here m)) a

  -- once it is synced
  pub begin-done : (mid e : Disk) → mid ≡ append d (log_of n) (file_bytes F laws n h carries)
      → e ≡ sync mid (log_of n) → IsLog F b n h before carries [] (files_of e)
  begin-done mid e first second =
      subst (λ (files : Files). IsLog F b n h before carries [] files) (sym is)
      (begin-log F laws b (reading F b (shown_logs (files_of d))) before n h carries (files_of d)
      (begins F b before n h carries (files_of d) goes_on))
    where
      bytes : List ℕ
      bytes = file_bytes F laws n h carries

      mid-files : files_of mid ≡ put (files_of d) n (Some (new_log bytes))
      mid-files = ap files_of first ∙ begin-files bytes

      is : files_of e ≡ put (files_of d) n (Some (whole bytes))
      is =
          ap files_of second ∙ sync-of-log mid n
          ∙ ap (λ (files : Files). put files n (option_map keep (files n))) mid-files
          ∙ ap (λ (o : Option FileState). put (put (files_of d) n (Some (new_log bytes))) n (option_map keep o))
          (put-at (files_of d) n (Some (new_log bytes)))
          ∙ put-put (files_of d) n (Some (new_log bytes)) (Some (whole bytes))

  pub begin-holds : (given : List F.Record) (mid e : Disk) → Holds F b given d
      → mid ≡ append d (log_of n) (file_bytes F laws n h carries) → e ≡ sync mid (log_of n) → Holds F b given e
  begin-holds given mid e holds first second =
      let old : found_world F ((reading F b (shown_logs (files_of d))).found) ≡ Some before.world =
      ap (λ (f : Option (Found F)). found_world F f) goes_on.found in
      holds ∙ old ∙ sym (restated F before.world carries goes_on.restate)
      ∙ ap (λ (l : List F.Record). replay F l (Some before.world)) (sym (append-nil carries))
      ∙ sym (log-shows-world F laws b n h before carries [] (files_of e) (begin-done mid e first second) tt)

-- ---- a file goes

module _ (F : Format) (laws : IsFormat F) (b n : ℕ) (h : F.Header) (before : Found F) (kept : List F.Record)
    (pending : List ℕ) (d : Disk) (log : IsLog F b n h before kept pending (files_of d)) (m : ℕ) (apart : m ≡ n → ⊥)
    (outside : AllByRecursion (λ (k : ℕ). eqb m k ≡ false) before.files) where
  pub remove-moment : (noticed given : List F.Record) (e : Disk) → Promises F b noticed given d
      → IsRemoving d (log_of m) e → Promises F b noticed given e
  remove-moment noticed given e keeps (inl same) =
      subst (λ (d : Disk). Promises F b noticed given d) (sym same) keeps
  remove-moment noticed given e keeps (inr same) =
      subst (λ (files : Files). Keeps F b noticed given files) (sym (ap files_of same ∙ remove-of-log d m))
      (remove-keeps F laws b n h before kept pending (files_of d) log m apart outside noticed given keeps)

  pub remove-done : (e : Disk) → IsRemoving d (log_of m) e → IsLog F b n h before kept pending (files_of e)
  remove-done e (inl same) =
      subst (λ (d : Disk). IsLog F b n h before kept pending (files_of d)) (sym same) log
  remove-done e (inr same) =
      subst (λ (files : Files). IsLog F b n h before kept pending files) (sym (ap files_of same ∙ remove-of-log d m))
      (remove-log F laws b n h before kept pending (files_of d) log m apart outside)
