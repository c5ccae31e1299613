-- Recovery: syncs, which settle what each image reads; files outside the chain that go; and the disk that a crash
-- leaves.
use Rattle.std.proofs.Common.{◌≡◌, ◌≤◌, ◌<◌, ℕ, Bool, true, false, cond, eqb, List, ◌++◌, Option, Some, None, refl, sym, ap, subst, ◌∙◌, inl, inr, ◌⊎◌, option_map}
use Rattle.std.proofs.lemmas.Bool.{cases_eq}
use Rattle.std.specs.List.{AllByRecursion}
use Rattle.qq_disk.specs.Disk.{FileState, whole, file_content, keep, mark_removed}
use Rattle.qq_wal_chain.specs.Format.{Format, IsFormat}
use Rattle.qq_wal_chain.specs.Records.{file_records}
use Rattle.qq_wal_chain.specs.Chain.{Logs, Found, has_header, chain, reading}
use Rattle.qq_wal_chain.specs.Image.{Files, put, all_bytes, MayLeaveLog, IsLogImage, is_removed, shown_logs}
use Rattle.qq_wal_chain.specs.Promise.{Recovers, found_world, IgnoresRemoved, Keeps, IsSteady, IsLog, IsSettled}
use Rattle.qq_base.proofs.Fronts.{front-refl}
use Rattle.qq_wal_chain.proofs.Walk.{put-at, put-other, chain-same, chain-without, Misses}
use Rattle.qq_wal_chain.proofs.Images.{image-back, image-here, whole-log-left, all-left, shown-image}
use Rattle.qq_wal_chain.proofs.Running.{file_bytes}
use Rattle.qq_wal_chain.proofs.Keeping.{log-keeps, follows-of}

-- ---- a sync

sync-removed : (o : Option FileState) → is_removed (option_map keep o) ≡ is_removed o
sync-removed None = refl
sync-removed (Some f) = by f.removed refl
  where
    by : (t : Bool) → f.removed ≡ t → is_removed (Some (cond t f (whole (f.kept ++ f.pending)))) ≡ f.removed
    by true e = refl
    by false e = sym e

module _ (F : Format) where
  -- ---- the disk that a crash leaves

  reopened-left : (n : ℕ) (o p : Option (List ℕ)) → MayLeaveLog F n (option_map whole o) p → p ≡ o
  reopened-left n None None left = refl
  reopened-left n None (Some bytes) left = absurd left
  reopened-left n (Some bytes) p left = whole-log-left F n bytes p left

  pub reopened-image : (L K : Logs) → IsLogImage F (λ n. option_map whole (L n)) K → K ≡ L
  reopened-image L K image = λ i n. reopened-left n (L n) (K n) (image n) i

  -- a disk that was opened keeps the promise of what it reads
  pub opened-keeps : (b : ℕ) (noticed given : List F.Record) (L : Logs)
      → Recovers F noticed given (found_world F ((reading F b L).found))
      → Keeps F b noticed given (λ n. option_map whole (L n))
  opened-keeps b noticed given L here = record {
    recovers = λ K one. subst (λ (K : Logs). Recovers F noticed given (found_world F ((reading F b K).found)))
        (sym (reopened-image L K one)) here;
    alike = λ K M one other same. ap (λ (K : Logs). reading F b K)
        (reopened-image L K one ∙ sym (reopened-image L M other));
  }

  -- it keeps what was promised, so a crash inside recovery is nothing new
  pub again-keeps : (b : ℕ) (noticed given : List F.Record) (files : Files) (L : Logs)
      → Keeps F b noticed given files → IsLogImage F files L → Keeps F b noticed given (λ n. option_map whole (L n))
  again-keeps b noticed given files L keeps image = opened-keeps b noticed given L (keeps.recovers L image)

  pub again-settled : (L : Logs) → IsSettled F (λ n. option_map whole (L n))
  again-settled L n here one other p q = reopened-left n (L n) one p ∙ sym (reopened-left n (L n) other q)

module _ (F : Format) (laws : IsFormat F) where
  -- what a file may leave once it is synced, it may have left before
  sync-left : (n : ℕ) (o : Option FileState) (x : Option (List ℕ)) → MayLeaveLog F n (option_map keep o) x
      → MayLeaveLog F n o x
  sync-left n None x left = left
  sync-left n (Some f) x left = by f.removed refl left
    where
      by : (t : Bool) → f.removed ≡ t → MayLeaveLog F n (Some (cond t f (whole (f.kept ++ f.pending)))) x
          → MayLeaveLog F n (Some f) x
      by true e left = left
      by false e left =
          subst (λ (x : Option (List ℕ)). MayLeaveLog F n (Some f) x)
          (sym (whole-log-left F n (f.kept ++ f.pending) x left)) (all-left F laws n f)

  pub sync-image : (files : Files) (n : ℕ) (L : Logs) → IsLogImage F (put files n (option_map keep (files n))) L
      → IsLogImage F files L
  sync-image files n L image m = by (cases_eq n m)
    where
      by : (n ≡ m) ⊎ (n ≡ m → ⊥) → MayLeaveLog F m (files m) (L m)
      by (inl same) =
          subst (λ (m : ℕ). MayLeaveLog F m (files m) (L m)) same
          (sync-left n (files n) (L n) (image-here F files n (option_map keep (files n)) L image))
      by (inr apart) =
          subst (λ (f : Option FileState). MayLeaveLog F m f (L m))
          (put-other files n m (option_map keep (files n)) apart) (image m)

  pub put-removed : (files : Files) (n m : ℕ)
      → is_removed (put files n (option_map keep (files n)) m) ≡ is_removed (files m)
  put-removed files n m = by (cases_eq n m)
    where
      by : (n ≡ m) ⊎ (n ≡ m → ⊥) → is_removed (put files n (option_map keep (files n)) m) ≡ is_removed (files m)
      by (inl same) =
          subst (λ (m : ℕ). is_removed (put files n (option_map keep (files n)) m) ≡ is_removed (files m)) same
          (ap is_removed (put-at files n (option_map keep (files n))) ∙ sync-removed (files n))
      by (inr apart) = ap is_removed (put-other files n m (option_map keep (files n)) apart)

  pub sync-ignores : (b n : ℕ) (files : Files) → IgnoresRemoved F b files
      → IgnoresRemoved F b (put files n (option_map keep (files n)))
  sync-ignores b n files ignores L K one other same =
      ignores L K (sync-image files n L one) (sync-image files n K other)
      (λ m here. same m (put-removed files n m ∙ here))

  -- a sync keeps what was promised
  pub sync-keeps : (b n : ℕ) (noticed given : List F.Record) (files : Files) → Keeps F b noticed given files
      → Keeps F b noticed given (put files n (option_map keep (files n)))
  sync-keeps b n noticed given files keeps = record {
    recovers = λ L image. keeps.recovers L (sync-image files n L image);
    alike = sync-ignores b n files keeps.alike;
  }

  -- ---- what is settled

  abbrev pub IsSettledAt : ℕ → Option FileState → Type 0
  IsSettledAt n o = is_removed o ≡ false → (one other : Option (List ℕ)) → MayLeaveLog F n o one
      → MayLeaveLog F n o other → one ≡ other

  -- a file that was synced is
  pub settled-keep : (n : ℕ) (o : Option FileState) → IsSettledAt n (option_map keep o)
  settled-keep n None here None None one other = refl
  settled-keep n None here (Some bytes) other one two = absurd one
  settled-keep n None here None (Some bytes) one two = absurd two
  settled-keep n (Some f) here p q one other = by f.removed refl here one other
    where
      by : (t : Bool) → f.removed ≡ t → is_removed (Some (cond t f (whole (f.kept ++ f.pending)))) ≡ false
          → MayLeaveLog F n (Some (cond t f (whole (f.kept ++ f.pending)))) p
          → MayLeaveLog F n (Some (cond t f (whole (f.kept ++ f.pending)))) q → p ≡ q
      by true e here one other = absurd (cc (e, here))
      by false e here one other =
          whole-log-left F n (f.kept ++ f.pending) p one ∙ sym (whole-log-left F n (f.kept ++ f.pending) q other)

  -- and so is one that isn't listed
  pub settled-free : (n : ℕ) (o : Option FileState) → file_content o ≡ None → IsSettledAt n o
  settled-free n None free here None None one other = refl
  settled-free n None free here (Some bytes) other one two = absurd one
  settled-free n None free here None (Some bytes) one two = absurd two
  settled-free n (Some f) free here p q one other = by f.removed refl free here
    where
      by : (t : Bool) → f.removed ≡ t → cond t None (Some (f.kept ++ f.pending)) ≡ None → f.removed ≡ false → p ≡ q
      by true e free here = absurd (cc (e, here))
      by false e free here = absurd (cc (free))

  -- where all is settled, each image reads as the disk does
  pub settled-steady : (b : ℕ) (noticed given : List F.Record) (files : Files) → Keeps F b noticed given files
      → IsSettled F files → IsSteady F b (reading F b (shown_logs files)) files
  settled-steady b noticed given files keeps settled L image =
      keeps.alike L (shown_logs files) image (shown-image F laws files)
      (λ n here. settled n here (L n) (shown_logs files n) (image n) (shown-image F laws files n))

  -- ---- a file outside the chain goes

  record Gone (m : ℕ) (o : Option FileState) (p : Option (List ℕ)) : Type 0 where
    was : Option (List ℕ)
    left : MayLeaveLog F m o was
    is : p ≡ None

  remove-left : (m : ℕ) (o : Option FileState) (p : Option (List ℕ)) → MayLeaveLog F m (option_map mark_removed o) p
      → MayLeaveLog F m o p ⊎ Gone m o p
  remove-left m None p left = inl left
  remove-left m (Some f) None left = inr (record { was = Some (all_bytes f); left = all-left F laws m f; is = refl })
  remove-left m (Some f) (Some bytes) (torn, honest) =
      inl (
        record { tail = torn.tail; is = torn.is; fits = torn.fits },
        record
            { header = honest.header; record_at = honest.record_at },
      )

  module _ (b n : ℕ) (h : F.Header) (before : Found F) (kept : List F.Record) (pending : List ℕ) (files : Files)
      (log : IsLog F b n h before kept pending files) (m : ℕ) (apart : m ≡ n → ⊥)
      (outside : AllByRecursion (λ (k : ℕ). eqb m k ≡ false) before.files) where
    -- an image with the file away, or one from before
    record Way (L : Logs) : Type 0 where
      full : Logs
      image : IsLogImage F files full
      same : (k : ℕ) → (m ≡ k → ⊥) → L k ≡ full k
      here : (L m ≡ full m) ⊎ (L m ≡ None)

    way : (L : Logs) → IsLogImage F (put files m (option_map mark_removed (files m))) L → Way L
    way L image =
        by (remove-left m (files m) (L m) (image-here F files m (option_map mark_removed (files m)) L image))
      where
        o : Option FileState
        o = option_map mark_removed (files m)

        by : MayLeaveLog F m (files m) (L m) ⊎ Gone m (files m) (L m) → Way L
        by (inl left) = record {
          full = put L m (L m);
          image = image-back F files m o L (L m) image left;
          same = λ k other. sym (put-other L m k (L m) other);
          here = inl (sym (put-at L m (L m)));
        }
        by (inr gone) = record {
          full = put L m gone.was;
          image = image-back F files m o L gone.was image gone.left;
          same = λ k other. sym (put-other L m k gone.was other);
          here = inr gone.is;
        }

    way-older : (L : Logs) → Way L → chain F b L (F.previous h) (F.good h) ≡ Some before
    way-older L w = by w.here
      where
        full : chain F b w.full (F.previous h) (F.good h) ≡ Some before
        full = log.older w.full w.image

        by : (L m ≡ w.full m) ⊎ (L m ≡ None) → chain F b L (F.previous h) (F.good h) ≡ Some before
        by (inl alike) = chain-same F b L w.full (F.previous h) (F.good h) (λ k less. each k (cases_eq m k)) ∙ full
          where
            each : (k : ℕ) → (m ≡ k) ⊎ (m ≡ k → ⊥) → L k ≡ w.full k
            each k (inl is) = subst (λ (k : ℕ). L k ≡ w.full k) is alike
            each k (inr other) = w.same k other
        by (inr none) =
            chain-same F b L (put w.full m None) (F.previous h) (F.good h) (λ k less. each k (cases_eq m k))
            ∙ chain-without F b w.full m (F.previous h) (F.good h)
            (subst (λ (f : Option (Found F)). Misses F m f) (sym full) outside)
            ∙ full
          where
            each : (k : ℕ) → (m ≡ k) ⊎ (m ≡ k → ⊥) → L k ≡ put w.full m None k
            each k (inl is) = subst (λ (k : ℕ). L k ≡ put w.full m None k) is (none ∙ sym (put-at w.full m None))
            each k (inr other) = w.same k other ∙ sym (put-other w.full m k None other)

    way-above : (L : Logs) → Way L → (k : ℕ) → n < k → k ≤ b → has_header F (L k) ≡ false
    way-above L w k less most = by (cases_eq m k) w.here
      where
        full : has_header F (w.full k) ≡ false
        full = log.above w.full w.image k less most

        by : (m ≡ k) ⊎ (m ≡ k → ⊥) → (L m ≡ w.full m) ⊎ (L m ≡ None) → has_header F (L k) ≡ false
        by (inl is) (inl alike) = ap (λ (o : Option (List ℕ)). has_header F o)
            (subst (λ (k : ℕ). L k ≡ w.full k) is alike) ∙ full
        by (inl is) (inr none) = ap (λ (o : Option (List ℕ)). has_header F o) (subst (λ (k : ℕ). L k ≡ None) is none)
        by (inr other) here = ap (λ (o : Option (List ℕ)). has_header F o) (w.same k other) ∙ full

    pub remove-log : IsLog F b n h before kept pending (put files m (option_map mark_removed (files m)))
    remove-log = record {
      is = put-other files m n (option_map mark_removed (files m)) apart ∙ log.is;
      header_fits = log.header_fits;
      fit = log.fit;
      number = log.number;
      back = log.back;
      within = log.within;
      older = λ L image. way-older L (way L image);
      above = λ L image k less most. way-above L (way L image) k less most;
    }

    pub remove-keeps : (noticed given : List F.Record) → Keeps F b noticed given files
        → Keeps F b noticed given (put files m (option_map mark_removed (files m)))
    remove-keeps noticed given keeps =
        log-keeps F laws b n h before kept pending (put files m (option_map mark_removed (files m))) remove-log
        noticed
        given (file_records F n (file_bytes F laws n h kept ++ pending))
        (front-refl (file_records F n (file_bytes F laws n h kept ++ pending)))
        (follows-of F laws b n h before kept pending files log noticed given keeps)
