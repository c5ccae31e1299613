-- What a crash leaves of files.
use Rattle.std.proofs.Common.{◌≡◌, ◌≤◌, ◌⊎◌, ℕ, Bool, true, false, cond, List, [], ◌++◌, length, Option, Some, None, refl, sym, ap, subst, ◌∙◌, inl, inr, arith, append-nil, length-append, unwrap_or, option_map, is_some, IsTrue}
use Rattle.qq_disk.specs.declared.name.FileName.{FileName}
use Rattle.qq_disk.specs.Name.{same_name}
use Rattle.qq_disk.specs.Disk.{Disk, FileState, set, file_content, append_target, new_file, grow, keep, mark_removed, whole, content, append, sync, remove, IsListed}
use Rattle.qq_disk.specs.Crash.{Remains, MayLeave, IsImage}
use Rattle.qq_disk.proofs.Names.{same_name-true, set-at}
use Rattle.qq_disk.proofs.Stored.{no_bytes, whole_left}
use Rattle.qq_disk_pins.specs.Images.{with, is_removed, BeginsWithKept}

-- ---- one name and the others

at_other : (d : Disk) (file other : FileName) (o : Option FileState) (i : Remains) (same : Bool)
    → same_name file other ≡ same → MayLeave o (i file) → MayLeave (d other) (i other)
    → MayLeave (cond same o (d other)) (i other)
at_other d file other o i true e here rest =
    subst (λ (n : FileName). MayLeave o (i n)) (same_name-true file other e) here
at_other d file other o i false e here rest = rest

-- a disk with another file under the name
set_leaves : (d : Disk) (file : FileName) (o : Option FileState) (i : Remains) → MayLeave o (i file)
    → IsImage d i → IsImage (set d file o) i
set_leaves d file o i here image = λ other.
    at_other d file other o i (same_name file other) refl here (image other)

set_left : (d : Disk) (file : FileName) (o : Option FileState) (i : Remains) → IsImage (set d file o) i
    → MayLeave o (i file)
set_left d file o i image = subst (λ (p : Option FileState). MayLeave p (i file)) (set-at d file o) (image file)

from_other : (d : Disk) (file other : FileName) (o : Option FileState) (i : Remains) (same : Bool)
    → same_name file other ≡ same → MayLeave (d file) (i file) → MayLeave (cond same o (d other)) (i other)
    → MayLeave (d other) (i other)
from_other d file other o i true e here left =
    subst (λ (n : FileName). MayLeave (d n) (i n)) (same_name-true file other e) here
from_other d file other o i false e here left = left

-- what is under the name may be left of the disk as it was too
unset_leaves : (d : Disk) (file : FileName) (o : Option FileState) (i : Remains) → MayLeave (d file) (i file)
    → IsImage (set d file o) i → IsImage d i
unset_leaves d file o i here image = λ other.
    from_other d file other o i (same_name file other) refl here (image other)

with_other : (d : Disk) (file other : FileName) (p : Option (List ℕ)) (i : Remains) (same : Bool)
    → same_name file other ≡ same → MayLeave (d file) p → MayLeave (d other) (i other)
    → MayLeave (d other) (cond same p (i other))
with_other d file other p i true e here rest =
    subst (λ (n : FileName). MayLeave (d n) p) (same_name-true file other e) here
with_other d file other p i false e here rest = rest

-- what is left with this of one file
with_leaves : (d : Disk) (file : FileName) (p : Option (List ℕ)) (i : Remains) → MayLeave (d file) p → IsImage d i
    → IsImage d (with file p i)
with_leaves d file p i here image = λ other.
    with_other d file other p i (same_name file other) refl here (image other)

-- ---- appends

grown_more : (bytes : List ℕ) (f : FileState) (p : Option (List ℕ)) → MayLeave (Some f) p
    → MayLeave (Some (grow f bytes)) p
grown_more bytes f None h = h
grown_more bytes f (Some left) h = record {
  tail = h.tail;
  is = h.is;
  fits = omega (arith, h.fits, length-append f.pending bytes);
}

grown : (bytes : List ℕ) (o : Option FileState) (p : Option (List ℕ)) → is_removed o ≡ false → MayLeave o p
    → MayLeave (Some (grow (append_target o) bytes)) p
grown bytes None None there h = inl refl
grown bytes None (Some left) there h = absurd h
grown bytes (Some f) p there h =
    subst (λ (b : Bool). MayLeave (Some (grow (cond b new_file f) bytes)) p) (sym there) (grown_more bytes f p h)

pub append_leaves : (d : Disk) (file : FileName) (bytes : List ℕ) (i : Remains) → is_removed (d file) ≡ false
    → IsImage d i → IsImage (append d file bytes) i
append_leaves d file bytes i there image =
    set_leaves d file (Some (grow (append_target (d file)) bytes)) i (grown bytes (d file) (i file) there (image file))
    image

pub never_synced : (d : Disk) (file : FileName) (f : FileState) (i : Remains) → d file ≡ Some f → f.synced ≡ false
    → IsImage d i → IsImage d (with file None i)
never_synced d file f i is unsynced image =
    with_leaves d file None i (subst (λ (o : Option FileState). MayLeave o None) (sym is) (inl unsynced)) image

pub any_tail : (d : Disk) (file : FileName) (f : FileState) (tail : List ℕ) (i : Remains) → d file ≡ Some f
    → length tail ≤ length f.pending → IsImage d i → IsImage d (with file (Some (f.kept ++ tail)) i)
any_tail d file f tail i is fits image =
    with_leaves d file (Some (f.kept ++ tail)) i
    (subst (λ (o : Option FileState). MayLeave o (Some (f.kept ++ tail))) (sym is)
    (record { tail = tail; is = refl; fits = fits })) image

-- ---- syncs

whole_unkept : (f : FileState) (p : Option (List ℕ)) → MayLeave (Some (whole (f.kept ++ f.pending))) p
    → MayLeave (Some f) p
whole_unkept f None (inl h) = absurd cc
whole_unkept f None (inr h) = absurd cc
whole_unkept f (Some left) h = record {
  tail = f.pending;
  is =
      h.is ∙ ap (λ (t : List ℕ). (f.kept ++ f.pending) ++ t) (no_bytes h.tail h.fits)
      ∙ append-nil (f.kept ++ f.pending);
  fits = omega arith;
}

unkept_by : (f : FileState) (p : Option (List ℕ)) (removed : Bool)
    → MayLeave (Some (cond removed f (whole (f.kept ++ f.pending)))) p → MayLeave (Some f) p
unkept_by f p true h = h
unkept_by f p false h = whole_unkept f p h

unkept : (o : Option FileState) (p : Option (List ℕ)) → MayLeave (option_map keep o) p → MayLeave o p
unkept None p h = h
unkept (Some f) p h = unkept_by f p f.removed h

pub sync_shrinks : (d : Disk) (file : FileName) (i : Remains) → IsImage (sync d file) i → IsImage d i
sync_shrinks d file i image =
    let o = option_map keep (d file) in
    unset_leaves d file o i (unkept (d file) (i file) (set_left d file o i image)) image

kept_by : (f : FileState) (p : Option (List ℕ)) (removed : Bool)
    → IsTrue (is_some (cond removed None (Some (f.kept ++ f.pending))))
    → MayLeave (Some (cond removed f (whole (f.kept ++ f.pending)))) p
    → p ≡ Some (unwrap_or (cond removed None (Some (f.kept ++ f.pending))) [])
kept_by f p true here h = absurd cc
kept_by f p false here h = whole_left (f.kept ++ f.pending) p h

kept_left : (o : Option FileState) (p : Option (List ℕ)) → IsTrue (is_some (file_content o))
    → MayLeave (option_map keep o) p → p ≡ Some (unwrap_or (file_content o) [])
kept_left None p here h = absurd cc
kept_left (Some f) p here h = kept_by f p f.removed here h

pub sync_leaves : (d : Disk) (file : FileName) (i : Remains) → IsListed d file → IsImage (sync d file) i
    → i file ≡ Some (content d file)
sync_leaves d file i here image =
    kept_left (d file) (i file) here (set_left d file (option_map keep (d file)) i image)

-- ---- removals

marked : (o : Option FileState) (p : Option (List ℕ)) → MayLeave o p → MayLeave (option_map mark_removed o) p
marked None p h = h
marked (Some f) None h = inr refl
marked (Some f) (Some left) h = record { tail = h.tail; is = h.is; fits = h.fits }

marked_gone : (o : Option FileState) → MayLeave (option_map mark_removed o) None
marked_gone None = tt
marked_gone (Some f) = inr refl

unmarked : (o : Option FileState) (left : List ℕ) → MayLeave (option_map mark_removed o) (Some left)
    → MayLeave o (Some left)
unmarked None left h = absurd h
unmarked (Some f) left h = record { tail = h.tail; is = h.is; fits = h.fits }

pub removed_back : (d : Disk) (file : FileName) (i : Remains) → IsImage d i → IsImage (remove d file) i
removed_back d file i image =
    set_leaves d file (option_map mark_removed (d file)) i (marked (d file) (i file) (image file)) image

pub removed_gone : (d : Disk) (file : FileName) (i : Remains) → IsImage d i
    → IsImage (remove d file) (with file None i)
removed_gone d file i image =
    with_leaves (remove d file) file None i
    (subst (λ (o : Option FileState). MayLeave o None) (sym (set-at d file (option_map mark_removed (d file))))
    (marked_gone (d file)))
    (removed_back d file i image)

no_other_by : (d : Disk) (file : FileName) (i : Remains) (p : Option (List ℕ)) → i file ≡ p
    → IsImage (remove d file) i → (i file ≡ None) ⊎ IsImage d i
no_other_by d file i None e image = inl e
no_other_by d file i (Some left) e image =
    let o = option_map mark_removed (d file) in
    let here : MayLeave (d file) (i file) = subst (λ (p : Option (List ℕ)). MayLeave (d file) p) (sym e)
    (unmarked (d file) left (subst (λ (p : Option (List ℕ)). MayLeave o p) e (set_left d file o i image))) in
    inr (unset_leaves d file o i here image)

pub removed_no_other : (d : Disk) (file : FileName) (i : Remains) → IsImage (remove d file) i
    → (i file ≡ None) ⊎ IsImage d i
removed_no_other d file i image = no_other_by d file i (i file) refl image

-- ---- one file

pub begins : (f : FileState) (p : Option (List ℕ)) → f.synced ≡ true → f.removed ≡ false → MayLeave (Some f) p
    → BeginsWithKept f p
begins f None safe here (inl h) = absurd (let e : true ≡ false = sym safe ∙ h in cc)
begins f None safe here (inr h) = absurd (let e : true ≡ false = sym h ∙ here in cc)
begins f (Some left) safe here h =
    record { tail = h.tail; is = ap (λ (bs : List ℕ). Some bs) h.is; fits = h.fits }

pub image_begins : (d : Disk) (file : FileName) (f : FileState) (i : Remains) → d file ≡ Some f → f.synced ≡ true
    → f.removed ≡ false → IsImage d i → BeginsWithKept f (i file)
image_begins d file f i is safe here image =
    begins f (i file) safe here (subst (λ (o : Option FileState). MayLeave o (i file)) is (image file))

absent : (p : Option (List ℕ)) → MayLeave None p → p ≡ None
absent None h = refl
absent (Some left) h = absurd h

pub image_absent : (d : Disk) (file : FileName) (i : Remains) → d file ≡ None → IsImage d i → i file ≡ None
image_absent d file i is image =
    absent (i file) (subst (λ (o : Option FileState). MayLeave o (i file)) is (image file))
