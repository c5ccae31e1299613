-- A disk that was just opened: whatever a crash leaves of it is what it shows.
use Rattle.std.proofs.Common.{◌≡◌, ◌+◌, ◌≤◌, ℕ, true, false, List, [], ◌∷◌, ◌++◌, length, Option, Some, None, refl, sym, ap, subst, ◌∙◌, inl, inr, zero, suc, arith}
use Rattle.std.specs.Prelude.{option_map, slice_get}
use Rattle.qq_disk.specs.declared.name.FileName.{FileName}
use Rattle.qq_disk.specs.Crash.{IsImage, MayLeave, Remains}
use Rattle.qq_disk.specs.Disk.{Disk, contents, file_content, now, whole}
use Rattle.qq_ports.specs.Yard.{IsOpened}
use Rattle.qq_broker.specs.Lives.{disk_at}

no-items : {A : Type 0} (xs : List A) → length xs ≡ 0 → xs ≡ []
no-items [] none = refl
no-items (x ∷ xs) none = absurd (let e : suc (length xs) ≡ 0 = none in omega (arith, e))

-- a file all of whose bytes are kept
whole-left : (kept : Option (List ℕ)) (left : Option (List ℕ)) → MayLeave (option_map whole kept) left
    → left ≡ file_content (option_map whole kept)
whole-left None None may = refl
whole-left None (Some bytes) may = absurd may
whole-left (Some kept) None (inl synced) = absurd (let e : true ≡ false = synced in cc)
whole-left (Some kept) None (inr removed) = absurd (let e : false ≡ true = removed in cc)
whole-left (Some kept) (Some bytes) torn =
    let none : torn.tail ≡ [] = no-items torn.tail (let fits : length torn.tail ≤ 0 = torn.fits in
    omega (arith, fits)) in
    ap (λ (l : List ℕ). Some l) (torn.is ∙ ap (λ (l : List ℕ). kept ++ l) none)

pub opened-left : (past : List Disk) → IsOpened past → (image : Remains) (file : FileName) → IsImage (now past) image
    → image file ≡ contents (now past) file
opened-left past opened image file is =
    subst (λ (p : List Disk). IsImage (now p) image → image file ≡ contents (now p) file) (sym opened.is)
    (λ here. whole-left (opened.held file) (image file) (here file)) is

pub opened-alone : (past : List Disk) → IsOpened past → length past ≡ 1
opened-alone past opened = ap length opened.is

-- a disk that was handed in is at its node's place of the list
pub handed-at : {D : Type 0} (disks : List D) (k : ℕ) (disk : D) → disk_at k disks ≡ Some disk
    → (before : ℕ) × (k ≡ before + 1) × (slice_get disks before ≡ Some disk)
handed-at disks zero disk is = absurd cc
handed-at disks (suc at) disk is = (at, omega arith, is)
