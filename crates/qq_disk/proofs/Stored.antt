-- A file to which records are added: what it holds at each moment, and what a crash leaves of it.
use Rattle.std.proofs.Common.{◌≡◌, ◌≤◌, ◌+◌, ℕ, Bool, true, false, IsTrue, List, [], ◌∷◌, ◌++◌, length, take, Option, Some, None, refl, sym, ap, subst, ◌∙◌, inl, inr, arith, append_assoc, append-nil, length-append, length-take, option_map}
use Rattle.qq_disk.specs.declared.name.FileName.{FileName}
use Rattle.qq_disk.specs.Disk.{Disk, FileState, now, append_target, grow, keep, whole, append, sync}
use Rattle.qq_disk.specs.Moments.{Adds, IsAppending, IsSyncing}
use Rattle.qq_disk.specs.Crash.{Remains, MayLeave, Leaves, LeavesOnly}
use Rattle.qq_disk.specs.Records.{Extends}
use Rattle.qq_disk.proofs.Names.{set-at}
use Rattle.qq_disk.proofs.Moments.{adds-leaves, adds-then}

-- a call leaves as it is whether the disk tells its contents
pub still_tells : {before after : Bool} → after ≡ before → IsTrue before → IsTrue after
still_tells same told = subst (λ (tells : Bool). IsTrue tells) (sym same) told

-- a file that was synced, and added to since
abbrev pub added : List ℕ → List ℕ → FileState
added old pending = record { kept = old; pending = pending; synced = true; removed = false }

-- the old bytes are kept, and what is behind them is no longer than so many
abbrev Within : List ℕ → ℕ → Option FileState → Type 0
Within old most None = ⊥
Within old most (Some f) =
    (f.synced ≡ true) × (f.removed ≡ false) ×
    ((more : List ℕ) × (f.kept ≡ old ++ more) × (length more + length f.pending ≤ most))

within_leaves : (old : List ℕ) (most : ℕ) (o : Option FileState) (p : Option (List ℕ)) → Within old most o
    → MayLeave o p → Extends old most p
within_leaves old most None p w h = absurd w
within_leaves old most (Some f) None w (inl h) = absurd cc
within_leaves old most (Some f) None w (inr h) = absurd cc
within_leaves old most (Some f) (Some bytes) (safe, here, (more, front, fits)) h = record {
  more = more ++ h.tail;
  is =
      ap (λ (bs : List ℕ). Some bs) (h.is ∙ ap (λ (bs : List ℕ). bs ++ h.tail) front ∙ append_assoc old more h.tail);
  fits = omega (arith, length-append more h.tail, h.fits);
}

within_added : (old pending : List ℕ) (most : ℕ) (o : Option FileState) → o ≡ Some (added old pending)
    → length pending ≤ most → Within old most o
within_added old pending most o e fits =
    subst (λ (o : Option FileState). Within old most o) (sym e) (refl, refl, ([], sym (append-nil old), omega arith))

within_whole : (old more : List ℕ) (most : ℕ) (o : Option FileState) → o ≡ Some (whole (old ++ more))
    → length more ≤ most → Within old most o
within_whole old more most o e fits =
    subst (λ (o : Option FileState). Within old most o) (sym e) (refl, refl, (more, refl, omega arith))

module _ (file : FileName) (old pending : List ℕ) where
  pub after_append : (d : Disk) (bytes : List ℕ) → d file ≡ Some (added old pending)
      → append d file bytes file ≡ Some (added old (pending ++ bytes))
  after_append d bytes e =
      set-at d file (Some (grow (append_target (d file)) bytes))
      ∙ ap (λ (o : Option FileState). Some (grow (append_target o) bytes)) e

  pub after_sync : (d : Disk) → d file ≡ Some (added old pending)
      → sync d file file ≡ Some (whole (old ++ pending))
  after_sync d e =
      set-at d file (option_map keep (d file)) ∙ ap (λ (o : Option FileState). option_map keep o) e

  within_appending : (d e : Disk) (bytes : List ℕ) (most : ℕ) → d file ≡ Some (added old pending)
      → length pending + length bytes ≤ most → IsAppending d file bytes e → Within old most (e file)
  within_appending d e bytes most is fits (inl same) =
      within_added old pending most (e file) (ap (λ (d : Disk). d file) same ∙ is) (omega arith)
  within_appending d e bytes most is fits (inr (count, same)) =
      within_added old (pending ++ take count bytes) most (e file)
      (ap (λ (d : Disk). d file) same ∙ after_append d (take count bytes) is)
      (omega (arith, length-append pending (take count bytes), length-take count bytes))

  within_syncing : (d e : Disk) (most : ℕ) → d file ≡ Some (added old pending) → length pending ≤ most
      → IsSyncing d file e → Within old most (e file)
  within_syncing d e most is fits (inl same) =
      within_added old pending most (e file) (ap (λ (d : Disk). d file) same ∙ is) fits
  within_syncing d e most is fits (inr same) =
      within_whole old pending most (e file) (ap (λ (d : Disk). d file) same ∙ after_sync d is) fits

  -- an append leaves the old bytes, and then no more than so many
  pub append_leaves : (past new : List Disk) (bytes : List ℕ) (most : ℕ)
      → now past file ≡ Some (added old pending) → length pending + length bytes ≤ most
      → Adds (IsAppending (now past) file bytes) past new
      → LeavesOnly (λ i. Extends old most (i file)) past new
  append_leaves past new bytes most is fits a =
      adds-leaves (IsAppending (now past) file bytes) (λ i. Extends old most (i file)) past new
      (λ e h i image. within_leaves old most (e file) (i file)
      (within_appending (now past) e bytes most is fits h) (image file)) a

  pub sync_leaves : (past new : List Disk) (most : ℕ) → now past file ≡ Some (added old pending)
      → length pending ≤ most → Adds (IsSyncing (now past) file) past new
      → LeavesOnly (λ i. Extends old most (i file)) past new
  sync_leaves past new most is fits a =
      adds-leaves (IsSyncing (now past) file) (λ i. Extends old most (i file)) past new
      (λ e h i image. within_leaves old most (e file) (i file) (within_syncing (now past) e most is fits h)
      (image file)) a

pub no_bytes : (bytes : List ℕ) → length bytes ≤ 0 → bytes ≡ []
no_bytes [] h = refl
no_bytes (b ∷ bytes) h = absurd (omega arith)

pub whole_left : (bytes : List ℕ) (p : Option (List ℕ)) → MayLeave (Some (whole bytes)) p → p ≡ Some bytes
whole_left bytes None (inl h) = absurd cc
whole_left bytes None (inr h) = absurd cc
whole_left bytes (Some others) h =
    ap (λ (bs : List ℕ). Some bs) (h.is ∙ ap (λ (t : List ℕ). bytes ++ t) (no_bytes h.tail h.fits) ∙ append-nil bytes)

-- a file all of whose bytes are kept is left as it is
pub whole_leaves : (d : Disk) (file : FileName) (bytes : List ℕ) → d file ≡ Some (whole bytes)
    → Leaves (λ i. i file ≡ Some bytes) d
whole_leaves d file bytes is i image =
    whole_left bytes (i file) (subst (λ (o : Option FileState). MayLeave o (i file)) is (image file))

-- two records are appended to a file all of whose bytes are kept, and then it is synced
module _ (file : FileName) (old first second : List ℕ) (p0 p1 p2 p3 : List Disk) where
  abbrev Kept : Remains → Type 0
  Kept i = Extends old (length first + length second) (i file)

  pub first_leaves : now p0 file ≡ Some (whole old) → Adds (IsAppending (now p0) file first) p0 p1
      → LeavesOnly Kept p0 p1
  first_leaves start a =
      append_leaves file old [] p0 p1 first (length first + length second) start (omega arith) a

  holds_first : now p0 file ≡ Some (whole old) → now p1 ≡ append (now p0) file first
      → now p1 file ≡ Some (added old first)
  holds_first start is = ap (λ (d : Disk). d file) is ∙ after_append file old [] (now p0) first start

  holds_both : now p0 file ≡ Some (whole old) → now p1 ≡ append (now p0) file first
      → now p2 ≡ append (now p1) file second → now p2 file ≡ Some (added old (first ++ second))
  holds_both start is js =
      ap (λ (d : Disk). d file) js ∙ after_append file old first (now p1) second (holds_first start is)

  pub second_leaves : now p0 file ≡ Some (whole old) → Adds (IsAppending (now p0) file first) p0 p1
      → now p1 ≡ append (now p0) file first → Adds (IsAppending (now p1) file second) p1 p2
      → LeavesOnly Kept p0 p2
  second_leaves start a is b =
      adds-then (Leaves Kept) p0 p1 p2 (first_leaves start a)
      (append_leaves file old first p1 p2 second (length first + length second) (holds_first start is)
      (omega arith) b)

  pub sync_leaves_both : now p0 file ≡ Some (whole old) → Adds (IsAppending (now p0) file first) p0 p1
      → now p1 ≡ append (now p0) file first → Adds (IsAppending (now p1) file second) p1 p2
      → now p2 ≡ append (now p1) file second → Adds (IsSyncing (now p2) file) p2 p3 → LeavesOnly Kept p0 p3
  sync_leaves_both start a is b js s =
      adds-then (Leaves Kept) p0 p2 p3 (second_leaves start a is b)
      (sync_leaves file old (first ++ second) p2 p3 (length first + length second) (holds_both start is js)
      (omega (arith, length-append first second)) s)

  pub stored_both : now p0 file ≡ Some (whole old) → now p1 ≡ append (now p0) file first
      → now p2 ≡ append (now p1) file second → now p3 ≡ sync (now p2) file
      → Leaves (λ i. i file ≡ Some (old ++ first ++ second)) (now p3)
  stored_both start is js ks =
      whole_leaves (now p3) file (old ++ first ++ second)
      (ap (λ (d : Disk). d file) ks ∙ after_sync file old (first ++ second) (now p2) (holds_both start is js)
      ∙ ap (λ (bs : List ℕ). Some (whole bs)) (sym (append_assoc old first second)))
