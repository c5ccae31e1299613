-- What a disk holds at the moments of a call.
use Rattle.std.proofs.Common.{◌≡◌, ◌⊎◌, ℕ, Bool, true, false, cond, List, [], ◌++◌, take, Option, Some, None, refl, sym, ap, subst, ◌∙◌, inl, inr, append-nil, append_assoc, unwrap_or, option_map}
use Rattle.qq_disk.specs.declared.name.FileName.{FileName}
use Rattle.qq_disk.specs.Name.{same_name}
use Rattle.qq_disk.specs.Disk.{Disk, FileState, file_content, append_target, new_file, grow, keep, mark_removed, whole, contents, content, append}
use Rattle.qq_disk.specs.Moments.{IsAppending, IsSyncing, IsRemoving}
use Rattle.qq_disk.specs.Crash.{Remains, IsImage}
use Rattle.qq_disk.proofs.Names.{same_name-true, set-at, set-other}
use Rattle.qq_disk_pins.specs.Images.{AddsFirstPart, KeepsOthers}
use Rattle.qq_disk_pins.proofs.Left.{sync_shrinks}

-- ---- appends

shows_by : (piece : List ℕ) (f : FileState) (removed : Bool) → f.removed ≡ removed
    → unwrap_or (file_content (Some (grow (cond removed new_file f) piece))) []
    ≡ unwrap_or (cond removed None (Some (f.kept ++ f.pending))) [] ++ piece
shows_by piece f true e = refl
shows_by piece f false e =
    ap (λ (b : Bool). unwrap_or (cond b None (Some (f.kept ++ (f.pending ++ piece)))) []) e
    ∙ sym (append_assoc f.kept f.pending piece)

shows_grown : (piece : List ℕ) (o : Option FileState)
    → unwrap_or (file_content (Some (grow (append_target o) piece))) [] ≡ unwrap_or (file_content o) [] ++ piece
shows_grown piece None = refl
shows_grown piece (Some f) = shows_by piece f f.removed refl

shows_appended : (d : Disk) (file : FileName) (piece : List ℕ)
    → content (append d file piece) file ≡ content d file ++ piece
shows_appended d file piece =
    ap (λ (o : Option FileState). unwrap_or (file_content o) [])
    (set-at d file (Some (grow (append_target (d file)) piece)))
    ∙ shows_grown piece (d file)

adds_none : (d : Disk) (file : FileName) (bytes : List ℕ) → AddsFirstPart d file bytes d
adds_none d file bytes =
    record { count = 0; shows = sym (append-nil (content d file)); others = λ other apart. refl }

adds_some : (d : Disk) (file : FileName) (bytes : List ℕ) (count : ℕ)
    → AddsFirstPart d file bytes (append d file (take count bytes))
adds_some d file bytes count = record {
  count = count;
  shows = shows_appended d file (take count bytes);
  others = λ other apart.
      set-other d file other (Some (grow (append_target (d file)) (take count bytes))) apart;
}

pub adds_first_part : (d : Disk) (file : FileName) (bytes : List ℕ) (e : Disk) → IsAppending d file bytes e
    → AddsFirstPart d file bytes e
adds_first_part d file bytes e (inl is) =
    subst (λ (x : Disk). AddsFirstPart d file bytes x) (sym is) (adds_none d file bytes)
adds_first_part d file bytes e (inr (count, is)) =
    subst (λ (x : Disk). AddsFirstPart d file bytes x) (sym is) (adds_some d file bytes count)

-- ---- syncs

shows_kept_by : (f : FileState) (removed : Bool) → f.removed ≡ removed
    → file_content (Some (cond removed f (whole (f.kept ++ f.pending)))) ≡ file_content (Some f)
shows_kept_by f true e = refl
shows_kept_by f false e =
    ap (λ (bs : List ℕ). Some bs) (append-nil (f.kept ++ f.pending))
    ∙ sym (ap (λ (b : Bool). cond b None (Some (f.kept ++ f.pending))) e)

shows_kept : (o : Option FileState) → file_content (option_map keep o) ≡ file_content o
shows_kept None = refl
shows_kept (Some f) = shows_kept_by f f.removed refl

reads_synced : (d : Disk) (file other : FileName) (same : Bool) → same_name file other ≡ same
    → file_content (cond same (option_map keep (d file)) (d other)) ≡ file_content (d other)
reads_synced d file other true e =
    shows_kept (d file) ∙ ap (λ (n : FileName). file_content (d n)) (same_name-true file other e)
reads_synced d file other false e = refl

pub sync_reads : (d : Disk) (file other : FileName) (e : Disk) → IsSyncing d file e
    → contents e other ≡ contents d other
sync_reads d file other e (inl is) = ap (λ (x : Disk). contents x other) is
sync_reads d file other e (inr is) =
    ap (λ (x : Disk). contents x other) is ∙ reads_synced d file other (same_name file other) refl

pub sync_images : (d : Disk) (file : FileName) (e : Disk) (i : Remains) → IsSyncing d file e → IsImage e i
    → IsImage d i
sync_images d file e i (inl is) image = subst (λ (x : Disk). IsImage x i) is image
sync_images d file e i (inr is) image = sync_shrinks d file i (subst (λ (x : Disk). IsImage x i) is image)

-- ---- removals

shows_none : (o : Option FileState) → file_content (option_map mark_removed o) ≡ None
shows_none None = refl
shows_none (Some f) = refl

pub remove_reads : (d : Disk) (file : FileName) (e : Disk) → IsRemoving d file e
    → (contents e file ≡ None) ⊎ (contents e file ≡ contents d file)
remove_reads d file e (inl is) = inr (ap (λ (x : Disk). contents x file) is)
remove_reads d file e (inr is) =
    inl (ap (λ (x : Disk). contents x file) is ∙ ap file_content (set-at d file (option_map mark_removed (d file)))
    ∙ shows_none (d file))

pub remove_others : (d : Disk) (file : FileName) (e : Disk) → IsRemoving d file e → KeepsOthers file d e
remove_others d file e (inl is) = λ other apart. ap (λ (x : Disk). x other) is
remove_others d file e (inr is) = λ other apart.
    ap (λ (x : Disk). x other) is ∙ set-other d file other (option_map mark_removed (d file)) apart
