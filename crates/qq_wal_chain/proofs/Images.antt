-- Images of the log files of a disk: one file put in another's place, and what is left of a file.
use Rattle.std.proofs.Common.{◌≡◌, ℕ, Bool, true, false, cond, List, ◌++◌, Option, Some, None, refl, sym, ap, subst, subst₂, ◌∙◌, arith, inl, inr, ◌⊎◌, append-nil}
use Rattle.std.proofs.lemmas.Bool.{cases_eq}
use Rattle.qq_disk.specs.Disk.{FileState, file_content, whole}
use Rattle.qq_disk.proofs.Stored.{no_bytes}
use Rattle.qq_wal_chain.specs.Format.{Format, IsFormat}
use Rattle.qq_wal_chain.specs.Chain.{Logs}
use Rattle.qq_wal_chain.specs.Image.{Files, put, all_bytes, MayLeaveLog, IsLogImage, shown_logs}
use Rattle.qq_base.proofs.Fronts.{front-refl}
use Rattle.qq_wal_chain.proofs.Walk.{put-at, put-other}
use Rattle.qq_wal_chain.proofs.Honest.{cut-honest}

module _ (F : Format) where
  -- an image of the files with another one in place of n, with what n may leave put back, is one of the files
  pub image-back : (files : Files) (n : ℕ) (o : Option FileState) (L : Logs) (x : Option (List ℕ))
      → IsLogImage F (put files n o) L → MayLeaveLog F n (files n) x → IsLogImage F files (put L n x)
  image-back files n o L x image here m = by (cases_eq n m)
    where
      by : (n ≡ m) ⊎ (n ≡ m → ⊥) → MayLeaveLog F m (files m) (put L n x m)
      by (inl same) =
          subst (λ (m : ℕ). MayLeaveLog F m (files m) (put L n x m)) same
          (subst (λ (y : Option (List ℕ)). MayLeaveLog F n (files n) y) (sym (put-at L n x)) here)
      by (inr apart) =
          subst₂ (λ (f : Option FileState) (y : Option (List ℕ)). MayLeaveLog F m f y) (put-other files n m o apart)
          (sym (put-other L n m x apart)) (image m)

  -- an image in which a file has another of the things that it may leave
  pub image-put : (files : Files) (n : ℕ) (L : Logs) (x : Option (List ℕ)) → IsLogImage F files L
      → MayLeaveLog F n (files n) x → IsLogImage F files (put L n x)
  image-put files n L x image here m = by (cases_eq n m)
    where
      by : (n ≡ m) ⊎ (n ≡ m → ⊥) → MayLeaveLog F m (files m) (put L n x m)
      by (inl same) =
          subst (λ (m : ℕ). MayLeaveLog F m (files m) (put L n x m)) same
          (subst (λ (y : Option (List ℕ)). MayLeaveLog F n (files n) y) (sym (put-at L n x)) here)
      by (inr apart) = subst (λ (y : Option (List ℕ)). MayLeaveLog F m (files m) y) (sym (put-other L n m x apart))
          (image m)

  -- what such an image has of n
  pub image-here : (files : Files) (n : ℕ) (o : Option FileState) (L : Logs) → IsLogImage F (put files n o) L
      → MayLeaveLog F n o (L n)
  image-here files n o L image =
      subst (λ (f : Option FileState). MayLeaveLog F n f (L n)) (put-at files n o) (image n)

  pub whole-log-left : (n : ℕ) (bytes : List ℕ) (p : Option (List ℕ)) → MayLeaveLog F n (Some (whole bytes)) p
      → p ≡ Some bytes
  whole-log-left n bytes None (inl h) = absurd cc
  whole-log-left n bytes None (inr h) = absurd cc
  whole-log-left n bytes (Some others) (torn, honest) =
      ap (λ (bs : List ℕ). Some bs) (torn.is ∙ ap (λ (t : List ℕ). bytes ++ t) (no_bytes torn.tail torn.fits)
      ∙ append-nil bytes)

module _ (F : Format) (laws : IsFormat F) (n : ℕ) where
  -- all that was written may be left
  pub all-left : (f : FileState) → MayLeaveLog F n (Some f) (Some (all_bytes f))
  all-left f = (
    record { tail = f.pending; is = refl; fits = omega arith },
    cut-honest F laws n f f.pending
        (front-refl f.pending),
  )

  shown-by : (f : FileState) (b : Bool) → f.removed ≡ b
      → MayLeaveLog F n (Some f) (cond b None (Some (all_bytes f)))
  shown-by f true e = inr e
  shown-by f false e = all-left f

  pub shown-left : (o : Option FileState) → MayLeaveLog F n o (file_content o)
  shown-left None = tt
  shown-left (Some f) = shown-by f f.removed refl

-- what the disk shows is one of its images
pub shown-image : (F : Format) (laws : IsFormat F) (files : Files) → IsLogImage F files (shown_logs files)
shown-image F laws files n = shown-left F laws n (files n)
