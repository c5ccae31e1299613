-- What follows for every disk.
use Rattle.std.proofs.Common.{◌≡◌, ◌≤◌, ℕ, Bool, true, false, cond, List, [], ◌∷◌, ◌++◌, length, Option, Some, None, refl, sym, ap, subst, ◌∙◌, inl, inr, arith, append_assoc, unwrap_or, option_map, is_some, IsTrue}
use Rattle.std.proofs.lemmas.List.{append-nil}
use Rattle.qq_disk.specs.declared.name.FileName.{FileName}
use Rattle.qq_disk.specs.Disk.{Disk, FileState, file_content, append_target, new_file, grow, keep, mark_removed, whole, contents, content, sync, IsListed}
use Rattle.qq_disk.specs.Name.{same_name}
use Rattle.qq_disk.specs.Crash.{Remains, MayLeave, IsImage, reopen}
use Rattle.qq_disk.specs.Calls.{Call, Append, Sync, Remove, apply, after, Spares}
use Rattle.qq_disk.proofs.Names.{same_name-true, set-at}

shown_whole : (f : FileState) (b : Bool) → f.removed ≡ b
    → MayLeave (Some f) (cond b None (Some (f.kept ++ f.pending)))
shown_whole f true e = inr e
shown_whole f false e = record { tail = f.pending; is = refl; fits = omega arith }

-- what a file shows may be left of it
pub may_show : (o : Option FileState) → MayLeave o (file_content o)
may_show None = tt
may_show (Some f) = shown_whole f f.removed refl

settled : (o : Option (List ℕ)) → MayLeave (option_map whole o) o
settled None = tt
settled (Some bytes) = record { tail = []; is = sym (append-nil bytes); fits = omega arith }

shown_whole_again : (o : Option (List ℕ)) → file_content (option_map whole o) ≡ o
shown_whole_again None = refl
shown_whole_again (Some bytes) = ap (λ (bs : List ℕ). Some bs) (append-nil bytes)

-- an image that is opened again reads as it is
pub image_shown : (i : Remains) (file : FileName) → contents (reopen i) file ≡ i file
image_shown i file = shown_whole_again (i file)

-- an image that is opened again is one of its own images
pub image_again : (i : Remains) → IsImage (reopen i) i
image_again i = λ file. settled (i file)

no_bytes : (bytes : List ℕ) → length bytes ≤ 0 → bytes ≡ []
no_bytes [] h = refl
no_bytes (b ∷ bytes) h = absurd (omega arith)

alone : (o p : Option (List ℕ)) → MayLeave (option_map whole o) p → p ≡ o
alone None None h = refl
alone None (Some bytes) h = absurd h
alone (Some bytes) None (inl h) = absurd cc
alone (Some bytes) None (inr h) = absurd cc
alone (Some bytes) (Some others) h =
    ap (λ (b : List ℕ). Some b) (h.is ∙ ap (λ (t : List ℕ). bytes ++ t) (no_bytes h.tail h.fits) ∙ append-nil bytes)

-- and it has no other
pub image_alone : (i j : Remains) (file : FileName) → IsImage (reopen i) j → j file ≡ i file
image_alone i j file h = alone (i file) (j file) (h file)

-- the file is there, and was synced with these bytes at the front
abbrev Stands : List ℕ → Option FileState → Type 0
Stands base None = ⊥
Stands base (Some f) = (f.removed ≡ false) × (f.synced ≡ true) × ((more : List ℕ) × (f.kept ≡ base ++ more))

stands_whole : (f : FileState) (b : Bool) → f.removed ≡ b
    → IsTrue (is_some (cond b None (Some (f.kept ++ f.pending))))
    → Stands (unwrap_or (cond b None (Some (f.kept ++ f.pending))) []) (Some (cond b f (whole (f.kept ++ f.pending))))
stands_whole f true e here = absurd cc
stands_whole f false e here = (refl, refl, ([], sym (append-nil (f.kept ++ f.pending))))

stands_synced : (o : Option FileState) → IsTrue (is_some (file_content o))
    → Stands (unwrap_or (file_content o) []) (option_map keep o)
stands_synced None here = absurd cc
stands_synced (Some f) here = stands_whole f f.removed refl here

stands_grown : (base bytes : List ℕ) (o : Option FileState) → Stands base o
    → Stands base (Some (grow (append_target o) bytes))
stands_grown base bytes None s = absurd s
stands_grown base bytes (Some f) s =
    subst (λ (b : Bool). Stands base (Some (grow (cond b new_file f) bytes))) (sym s.0) s

stands_kept : (base : List ℕ) (o : Option FileState) → Stands base o → Stands base (option_map keep o)
stands_kept base None s = absurd s
stands_kept base (Some f) (here, safe, (more, front)) =
    subst (λ (b : Bool). Stands base (Some (cond b f (whole (f.kept ++ f.pending))))) (sym here) (
      refl,
      refl,
      (
        more ++ f.pending,
        ap (λ (bs : List ℕ). bs ++ f.pending) front
            ∙ append_assoc base more f.pending,
      ),
    )

-- a change under some name, which keeps what stands there
stands_set : (base : List ℕ) (d : Disk) (other file : FileName) (o : Option FileState)
    → (Stands base (d other) → Stands base o) → Stands base (d file) → (same : Bool)
    → same_name other file ≡ same → Stands base (cond same o (d file))
stands_set base d other file o keeps s true e =
    keeps (subst (λ (n : FileName). Stands base (d n)) (sym (same_name-true other file e)) s)
stands_set base d other file o keeps s false e = s

stands_after : (base : List ℕ) (file : FileName) (calls : List Call) (d : Disk) → Spares file calls
    → Stands base (d file) → Stands base (after d calls file)
stands_after base file [] d spares s = s
stands_after base file (Append other bytes ∷ calls) d spares s =
    stands_after base file calls (apply d (Append other bytes)) spares
    (stands_set base d other file (Some (grow (append_target (d other)) bytes))
    (stands_grown base bytes (d other)) s (same_name other file) refl)
stands_after base file (Sync other ∷ calls) d spares s =
    stands_after base file calls (apply d (Sync other)) spares
    (stands_set base d other file (option_map keep (d other)) (stands_kept base (d other)) s
    (same_name other file) refl)
stands_after base file (Remove other ∷ calls) d spares s =
    stands_after base file calls (apply d (Remove other)) spares.1
    (subst (λ (b : Bool). Stands base (cond b (option_map mark_removed (d other)) (d file))) (sym spares.0) s)

left_of : (base : List ℕ) (o : Option FileState) (p : Option (List ℕ)) → Stands base o → MayLeave o p
    → (more : List ℕ) × (p ≡ Some (base ++ more))
left_of base None p s h = absurd s
left_of base (Some f) None s (inl h) = absurd cc
left_of base (Some f) None s (inr h) = absurd cc
left_of base (Some f) (Some bytes) (here, safe, (more, front)) h = (
  more ++ h.tail,
  ap (λ (bs : List ℕ). Some bs)
      (h.is ∙ ap (λ (bs : List ℕ). bs ++ h.tail) front ∙ append_assoc base more h.tail),
)

-- what a sync kept stands in every image from then on
pub stays : (d : Disk) (file : FileName) (calls : List Call) (i : Remains) → IsListed d file
    → Spares file calls → IsImage (after (sync d file) calls) i
    → (more : List ℕ) × (i file ≡ Some (content d file ++ more))
stays d file calls i here spares image =
    let first : Stands (content d file) (sync d file file) = subst
    (λ (o : Option FileState). Stands (content d file) o) (sym (set-at d file (option_map keep (d file))))
    (stands_synced (d file) here) in
    left_of (content d file) (after (sync d file) calls file) (i file)
    (stands_after (content d file) file calls (sync d file) spares first) (image file)
