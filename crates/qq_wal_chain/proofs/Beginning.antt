-- A new file is begun behind what each image reads.
use Rattle.std.proofs.Common.{◌≡◌, ◌≤◌, ◌<◌, ℕ, Bool, true, false, cond, List, [], ◌++◌, Option, Some, None, refl, sym, ap, ap₂, subst, ◌∙◌, arith, inl, inr, ◌⊎◌, append-nil, is_some}
use Rattle.std.proofs.lemmas.Bool.{cases_eq}
use Rattle.std.specs.List.{AllByRecursion}
use Rattle.qq_disk.specs.Disk.{FileState, whole, file_content}
use Rattle.qq_base.specs.Fronts.{IsFront}
use Rattle.qq_wal_chain.specs.Format.{Format, IsFormat}
use Rattle.qq_wal_chain.specs.Records.{Restate, end_of, file_records}
use Rattle.qq_wal_chain.specs.Chain.{Logs, Found, Reading, has_header, newest, good_length, add_file, chain, read_chain, reading}
use Rattle.qq_wal_chain.specs.Image.{Files, IsLogImage, MayLeaveLog, is_removed, put, shown_logs}
use Rattle.qq_wal_chain.specs.Promise.{Recovers, found_world, IgnoresRemoved, Keeps, IsSteady, IsLog, Continues}
use Rattle.qq_base.proofs.Fronts.{front-refl, front-trans}
use Rattle.qq_wal_chain.proofs.Runs.{records-nil}
use Rattle.qq_wal_chain.proofs.Honest.{header-front, trusted-header, trusted-front}
use Rattle.qq_wal_chain.proofs.Replays.{restated, restate-front}
use Rattle.qq_wal_chain.proofs.Walk.{put-at, put-other, newest-same, newest-above, chain-same}
use Rattle.qq_wal_chain.proofs.Images.{image-back, image-here}
use Rattle.qq_wal_chain.proofs.Running.{file_bytes, file-records, file-header, file-front, log_reading, reading-at, world-added}
use Rattle.qq_wal_chain.proofs.Keeping.{log-keeps}

-- a file that was begun and never synced
abbrev pub new_log : List ℕ → FileState
new_log bytes = record { kept = []; pending = bytes; synced = false; removed = false }

-- a file that isn't listed may be absent
pub free-left : (F : Format) (n : ℕ) (o : Option FileState) → file_content o ≡ None → MayLeaveLog F n o None
free-left F n None free = tt
free-left F n (Some f) free = by f.removed refl free
  where
    by : (t : Bool) → f.removed ≡ t → cond t None (Some (f.kept ++ f.pending)) ≡ None
        → (f.synced ≡ false) ⊎ (f.removed ≡ true)
    by true e h = inr e
    by false e h = absurd cc

module _ (F : Format) where
  -- readings that go by the same newest file, and agree up to it
  pub reading-same : (b : ℕ) (L K : Logs) → newest F b L ≡ newest F b K
      → ((m : ℕ) → m ≤ newest F b K → L m ≡ K m) → reading F b L ≡ reading F b K
  reading-same b L K same agree =
      let k : ℕ = newest F b K in
      ap (λ (k : ℕ). read_chain F b L k) same
      ∙ ap (λ (o : Option (List ℕ)). made k (good_length F k o) (chain F b L k (good_length F k o)))
      (agree k (omega arith))
      ∙ ap (λ (f : Option (Found F)). made k (good_length F k (K k)) f)
      (chain-same F b L K k (good_length F k (K k)) agree)
    where
      made : ℕ → ℕ → Option (Found F) → Reading F
      made file good found = record { file = file; good = good; found = found }

  -- the chain that a reading has found
  pub reading-chain : (b : ℕ) (L : Logs) (r : Reading F) → reading F b L ≡ r → chain F b L r.file r.good ≡ r.found
  reading-chain b L r e = subst (λ (r : Reading F). chain F b L r.file r.good ≡ r.found) e refl

  pub steady-ignores : (b : ℕ) (r : Reading F) (files : Files) → IsSteady F b r files → IgnoresRemoved F b files
  steady-ignores b r files steady L K one other same = steady L one ∙ sym (steady K other)

  -- where each image reads the same, the promise is kept
  pub steady-keeps : (b : ℕ) (r : Reading F) (noticed given : List F.Record) (files : Files) → IsSteady F b r files
      → Recovers F noticed given (found_world F r.found) → Keeps F b noticed given files
  steady-keeps b r noticed given files steady here = record {
    recovers = λ L image. subst (λ (r : Reading F). Recovers F noticed given (found_world F r.found))
        (sym (steady L image)) here;
    alike = steady-ignores b r files steady;
  }

-- what a new file goes on from, where each image reads the same
pub record Begins (F : Format) (b : ℕ) (r : Reading F) (before : Found F) (n : ℕ) (h : F.Header)
    (carries : List F.Record) (files : Files) : Type 0 where
  pub steady : IsSteady F b r files
  pub found : r.found ≡ Some before
  pub newer : r.file < n
  pub within : n ≤ b
  pub free : file_content (files n) ≡ None
  pub number : F.number h ≡ n
  pub previous : F.previous h ≡ r.file
  pub good : F.good h ≡ r.good
  pub header_fits : F.HeaderFits h
  pub fit : AllByRecursion (F.Fits n) carries
  pub restate : Restate F before.world carries

pub begins : (F : Format) (b : ℕ) (before : Found F) (n : ℕ) (h : F.Header) (carries : List F.Record) (files : Files)
    → Continues F b before n h carries files
    → Begins F b (reading F b (shown_logs files)) before n h carries files
begins F b before n h carries files c = record {
  steady = c.settled;
  found = c.found;
  newer = c.newer;
  within = c.within;
  free = c.free;
  number = c.number;
  previous = c.previous;
  good = c.good;
  header_fits = c.header_fits;
  fit = c.fit;
  restate = c.restate;
}

module _ (F : Format) (laws : IsFormat F) (b : ℕ) (r : Reading F) (before : Found F) (n : ℕ) (h : F.Header)
    (carries : List F.Record) (files : Files) (start : Begins F b r before n h carries files) where
  -- an image with the new file away is one of before
  away : (o : Option FileState) (L : Logs) → IsLogImage F (put files n o) L → IsLogImage F files (put L n None)
  away o L image = image-back F files n o L None image (free-left F n (files n) start.free)

  behind : (o : Option FileState) (L : Logs) → IsLogImage F (put files n o) L
      → chain F b L (F.previous h) (F.good h) ≡ Some before
  behind o L image =
      chain-same F b L (put L n None) (F.previous h) (F.good h)
      (λ m less. sym (put-other L n m None (λ e. absurd (omega (arith, start.previous, start.newer)))))
      ∙ ap₂ (λ (p g : ℕ). chain F b (put L n None) p g) start.previous start.good
      ∙ reading-chain F b (put L n None) r (start.steady (put L n None) (away o L image))
      ∙ start.found

  above : (o : Option FileState) (L : Logs) → IsLogImage F (put files n o) L → (m : ℕ) → n < m → m ≤ b
      → has_header F (L m) ≡ false
  above o L image m less most =
      let same : newest F b (put L n None) ≡ r.file =
      ap (λ (r : Reading F). r.file) (start.steady (put L n None) (away o L image)) in
      ap (λ (o : Option (List ℕ)). has_header F o) (sym (put-other L n m None (λ e. absurd (omega arith))))
      ∙ newest-above F b (put L n None) m (omega (arith, start.newer)) most

  -- an image in which it has no whole header reads as before
  unheaded : (o : Option FileState) (L : Logs) → IsLogImage F (put files n o) L → has_header F (L n) ≡ false
      → reading F b L ≡ r
  unheaded o L image none =
      let steady = start.steady (put L n None) (away o L image) in
      let same : newest F b (put L n None) ≡ r.file = ap (λ (r : Reading F). r.file) steady in
      reading-same F b L (put L n None) (newest-same F b L (put L n None) headers)
      (λ m less. sym (put-other L n m None (λ e. absurd (omega (arith, start.newer)))))
      ∙ steady
    where
      headers : (m : ℕ) → m ≤ b → has_header F (L m) ≡ has_header F (put L n None m)
      headers m most = by (cases_eq n m)
        where
          by : (n ≡ m) ⊎ (n ≡ m → ⊥) → has_header F (L m) ≡ has_header F (put L n None m)
          by (inl same) =
              ap (λ (m : ℕ). has_header F (L m)) (sym same) ∙ none
              ∙ sym (ap (λ (m : ℕ). has_header F (put L n None m)) (sym same)
              ∙ ap (λ (o : Option (List ℕ)). has_header F o) (put-at L n None))
          by (inr apart) = ap (λ (o : Option (List ℕ)). has_header F o) (sym (put-other L n m None apart))

  -- what an image shows while the file is begun
  record Begun (L : Logs) : Type 0 where
    reads : reading F b L ≡ cond (has_header F (L n)) (log_reading F laws n before (L n)) r
    world : found_world F ((reading F b L).found) ≡ Some before.world

  carries-read : file_records F n (file_bytes F laws n h carries) ≡ carries
  carries-read =
      ap (λ (bs : List ℕ). file_records F n bs) (sym (append-nil (file_bytes F laws n h carries)))
      ∙ file-records F laws n h carries [] start.header_fits start.fit
      ∙ ap (λ (l : List F.Record). carries ++ l) (records-nil F laws n) ∙ append-nil carries

  old-world : found_world F r.found ≡ Some before.world
  old-world = ap (λ (f : Option (Found F)). found_world F f) start.found

  begun : (bytes : List ℕ) (L : Logs) → IsFront bytes (file_bytes F laws n h carries)
      → IsLogImage F (put files n (Some (new_log bytes))) L → Begun L
  begun bytes L front image = by (L n) refl (image-here F files n (Some (new_log bytes)) L image)
    where
      old : has_header F (L n) ≡ false → Begun L
      old none = record {
        reads = unheaded (Some (new_log bytes)) L image none
            ∙ sym (ap (λ (t : Bool). cond t (log_reading F laws n before (L n)) r) none);
        world = ap (λ (r : Reading F). found_world F r.found) (unheaded (Some (new_log bytes)) L image none)
            ∙ old-world;
      }

      new : (others : List ℕ) (here : F.Header) → L n ≡ Some others
          → MayLeaveLog F n (Some (new_log bytes)) (Some others)
          → F.read_header others ≡ Some here → Begun L
      new others here is (torn, honest) head =
          let written = trusted-header F laws n (new_log bytes) others torn.tail here torn.is honest head in
          let in_all = header-front F laws n bytes (file_bytes F laws n h carries) here front written in
          let ours : F.read_header (file_bytes F laws n h carries) ≡ Some h =
          ap (λ (bs : List ℕ). F.read_header bs) (sym (append-nil (file_bytes F laws n h carries)))
          ∙ file-header F laws n h carries [] start.header_fits in
          let head_is : F.read_header others ≡ Some h = head ∙ sym in_all ∙ ours in
          let rs : List F.Record = file_records F n others in
          let cut : IsFront rs carries = front-trans
          (trusted-front F laws n (new_log bytes) others torn.tail torn.is honest)
          (subst (λ (l : List F.Record). IsFront (file_records F n bytes) l) carries-read
          (file-front F laws n bytes (file_bytes F laws n h carries) front)) in
          let reads : reading F b L ≡ log_reading F laws n before (Some others) =
          reading-at F laws b n L others h (omega (arith, start.newer)) start.within is head_is start.number
          (omega (arith, start.newer, start.previous)) (above (Some (new_log bytes)) L image)
          ∙ ap (λ (f : Option (Found F)). made (end_of F n rs) (add_file F n rs f))
          (behind (Some (new_log bytes)) L image) in
          let whole_header : has_header F (L n) ≡ true = ap (λ (o : Option (List ℕ)). has_header F o) is
          ∙ ap is_some head in
          record {
            reads = reads ∙ ap (λ (o : Option (List ℕ)). log_reading F laws n before o) (sym is)
                ∙ sym (ap (λ (t : Bool). cond t (log_reading F laws n before (L n)) r) whole_header);
            world = ap (λ (r : Reading F). found_world F r.found) reads ∙ world-added F laws n rs before
                ∙ restated F before.world rs (restate-front F before.world rs carries cut start.restate);
          }
        where
          made : ℕ → Option (Found F) → Reading F
          made good found = record { file = n; good = good; found = found }

      headed : (others : List ℕ) (o : Option F.Header) → L n ≡ Some others
          → MayLeaveLog F n (Some (new_log bytes)) (Some others) → F.read_header others ≡ o → Begun L
      headed others None is left head =
          old (ap (λ (o : Option (List ℕ)). has_header F o) is ∙ ap is_some head)
      headed others (Some here) is left head = new others here is left head

      by : (o : Option (List ℕ)) → L n ≡ o → MayLeaveLog F n (Some (new_log bytes)) (L n) → Begun L
      by None is left = old (ap (λ (o : Option (List ℕ)). has_header F o) is)
      by (Some others) is left =
          headed others (F.read_header others) is (subst
          (λ (o : Option (List ℕ)). MayLeaveLog F n (Some (new_log bytes)) o) is left) refl

  -- while the file is begun, removed files have no say
  pub begin-ignores : (bytes : List ℕ) → IsFront bytes (file_bytes F laws n h carries)
      → IgnoresRemoved F b (put files n (Some (new_log bytes)))
  begin-ignores bytes front L K one other same =
      (begun bytes L front one).reads
      ∙ ap (λ (o : Option (List ℕ)). cond (has_header F o) (log_reading F laws n before o) r)
      (same n (ap is_removed (put-at files n (Some (new_log bytes)))))
      ∙ sym ((begun bytes K front other).reads)

  -- and the promise is kept
  pub begin-keeps : (noticed given : List F.Record) (bytes : List ℕ) → IsFront bytes (file_bytes F laws n h carries)
      → Recovers F noticed given (found_world F r.found)
      → Keeps F b noticed given (put files n (Some (new_log bytes)))
  begin-keeps noticed given bytes front here = record {
    recovers = λ L image. subst (λ (w : Option F.World). Recovers F noticed given w)
        (old-world ∙ sym ((begun bytes L front image).world)) here;
    alike = begin-ignores bytes front;
  }

  -- once it is synced, the log goes on there
  pub begin-log : IsLog F b n h before carries [] (put files n (Some (whole (file_bytes F laws n h carries))))
  begin-log = record {
    is = put-at files n (Some (whole (file_bytes F laws n h carries)));
    header_fits = start.header_fits;
    fit = start.fit;
    number = start.number;
    back = omega (arith, start.newer, start.previous);
    within = start.within;
    older = behind (Some (whole (file_bytes F laws n h carries)));
    above = above (Some (whole (file_bytes F laws n h carries)));
  }

  pub begin-done : (noticed given : List F.Record) → Recovers F noticed given (found_world F r.found)
      → Keeps F b noticed given (put files n (Some (whole (file_bytes F laws n h carries))))
  begin-done noticed given here =
      log-keeps F laws b n h before carries [] (put files n (Some (whole (file_bytes F laws n h carries)))) begin-log
      noticed given carries
      (subst (λ (l : List F.Record). IsFront l carries)
      (sym (file-records F laws n h carries [] start.header_fits start.fit
      ∙ ap (λ (l : List F.Record). carries ++ l) (records-nil F laws n) ∙ append-nil carries))
      (front-refl carries))
      (record {
        each = λ rs held cut. subst (λ (w : Option F.World). Recovers F noticed given w)
            (old-world ∙ sym (restated F before.world rs (restate-front F before.world rs carries cut start.restate)))
            here;
      })
