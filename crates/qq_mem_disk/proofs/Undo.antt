-- A change is undone.
use Rattle.std.proofs.Common.{◌≡◌, ◌++◌, ℕ, Bool, true, false, cond, List, [], length, take, drop, Option, Some, None, option_map, refl, sym, ap, subst, ◌∙◌, take_at, drop_at, append_assoc, append-nil}
use Rattle.qq_disk.specs.declared.name.FileName.{FileName}
use Rattle.qq_disk.specs.Disk.{Disk, FileState, set, keep, mark_removed, whole}
use Rattle.qq_disk.proofs.Names.{set-at, set-back, set-same}
use Rattle.qq_mem_disk.specs.declared.change.Before.{Before}
use Rattle.qq_mem_disk.specs.declared.change.Before.TheVariants.{Absent, Earlier}
use Rattle.qq_mem_disk.specs.Change.{mark_of, earlier, before_of}
use Rattle.qq_mem_disk.specs.Files.{IsUndone}

-- what stood under the name is put back
pub undone_set : (d e : Disk) (file : FileName) (before : Before) (o : Option FileState) → e ≡ set d file o
    → before_of before o ≡ d file → IsUndone file before d e
undone_set d e file before o is back =
    subst (λ (e : Disk). IsUndone file before d e) (sym is)
    (ap (λ (p : Option FileState). set (set d file o) file (before_of before p)) (set-at d file o)
    ∙ ap (λ (p : Option FileState). set (set d file o) file p) back
    ∙ set-back d file o)

-- a file whose bytes are at the front of these
pub earlier_front : (f : FileState) (more : List ℕ) → earlier (mark_of f) ((f.kept ++ f.pending) ++ more) ≡ f
earlier_front f more =
    let whole : take (length (f.kept ++ f.pending)) ((f.kept ++ f.pending) ++ more) ≡ f.kept ++ f.pending = take_at
    (f.kept ++ f.pending) more (length (f.kept ++ f.pending)) refl in
    let front : take (length f.kept) ((f.kept ++ f.pending) ++ more) ≡ f.kept = ap
    (λ (bs : List ℕ). take (length f.kept) bs) (append_assoc f.kept f.pending more)
    ∙ take_at f.kept (f.pending ++ more) (length f.kept) refl in
    let back : drop (length f.kept) (take (length (f.kept ++ f.pending)) ((f.kept ++ f.pending) ++ more)) ≡
    f.pending = ap (λ (bs : List ℕ). drop (length f.kept) bs) whole
    ∙ drop_at f.kept f.pending (length f.kept) refl in
    λ i. record { kept = front i; pending = back i; synced = f.synced; removed = f.removed }

earlier_same : (f : FileState) → earlier (mark_of f) (f.kept ++ f.pending) ≡ f
earlier_same f = ap (earlier (mark_of f)) (sym (append-nil (f.kept ++ f.pending))) ∙ earlier_front f []

earlier_kept : (f : FileState) (removed : Bool)
    → earlier (mark_of f) ((cond removed f (whole (f.kept ++ f.pending))).kept ++
    (cond removed f (whole (f.kept ++ f.pending))).pending) ≡ f
earlier_kept f true = earlier_same f
earlier_kept f false = earlier_front f []

-- a sync of a file that is there is undone by its mark
pub undone_sync : (d e : Disk) (file : FileName) (f : FileState) → d file ≡ Some f
    → e ≡ set d file (option_map keep (d file)) → IsUndone file (Earlier (mark_of f)) d e
undone_sync d e file f here is =
    undone_set d e file (Earlier (mark_of f)) (Some (keep f))
    (is ∙ ap (λ (o : Option FileState). set d file (option_map keep o)) here)
    (ap (λ (g : FileState). Some g) (earlier_kept f f.removed) ∙ sym here)

-- and so is a removal
pub undone_remove : (d e : Disk) (file : FileName) (f : FileState) → d file ≡ Some f
    → e ≡ set d file (option_map mark_removed (d file)) → IsUndone file (Earlier (mark_of f)) d e
undone_remove d e file f here is =
    undone_set d e file (Earlier (mark_of f)) (Some (mark_removed f))
    (is ∙ ap (λ (o : Option FileState). set d file (option_map mark_removed o)) here)
    (ap (λ (g : FileState). Some g) (earlier_same f) ∙ sym here)

-- a new file is undone by the name's absence
pub undone_new : (d e : Disk) (file : FileName) (f : FileState) → d file ≡ None → e ≡ set d file (Some f)
    → IsUndone file Absent d e
undone_new d e file f none is = undone_set d e file Absent (Some f) is (sym none)

-- what was found, put back as it was
pub set_found : (d e : Disk) (file : FileName) (f g : FileState) → d file ≡ Some f → e ≡ set d file (Some g)
    → g ≡ f → e ≡ d
set_found d e file f g here is same =
    is ∙ ap (λ (f : FileState). set d file (Some f)) same ∙ ap (λ (o : Option FileState). set d file o) (sym here)
    ∙ set-same d file
