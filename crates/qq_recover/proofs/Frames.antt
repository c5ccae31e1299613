-- What recovery leaves of files that it doesn't write to.
use Rattle.std.proofs.Common.{◌≡◌, ◌<◌, ◌⊎◌, ℕ, Bool, true, false, cond, List, ◌++◌, Option, Some, None, option_map, refl, sym, ap, subst, ◌∙◌, inl, inr, append-nil}
use Rattle.qq_disk.specs.declared.name.FileName.{FileName}
use Rattle.qq_disk.specs.Disk.{Disk, FileState, IsListed, contents, file_content, keep, now, whole}
use Rattle.qq_disk.specs.Image.{log_of}
use Rattle.qq_disk.specs.Moments.{Adds, IsSyncing}
use Rattle.qq_disk.specs.Name.{same_name}
use Rattle.qq_disk.proofs.Moments.{adds-now, adds-step, adds-weaker}
use Rattle.qq_disk.proofs.Names.{same_name-true}
use Rattle.qq_wal.specs.Running.{KeepsOthers, StaysBeside}
use Rattle.qq_recover.specs.Recovery.{BeginsOne, OnlySyncs, StaysSyncing, SyncsOthers}

syncs-none : (d : Disk) → OnlySyncs d d
syncs-none d file = inl refl

syncing : (d e : Disk) (file : FileName) → IsSyncing d file e → OnlySyncs d e
syncing d e file (inl same) other = inl (ap (λ (d : Disk). d other) same)
syncing d e file (inr same) other = by (same_name file other) refl
  where
    at : (b : Bool) → same_name file other ≡ b → e other ≡ cond b (option_map keep (d file)) (d other)
    at b is =
        ap (λ (d : Disk). d other) same ∙ ap (λ (b : Bool). cond b (option_map keep (d file)) (d other)) is

    by : (b : Bool) → same_name file other ≡ b → (e other ≡ d other) ⊎ (e other ≡ option_map keep (d other))
    by true is = inr (at true is ∙ ap (λ (f : FileName). option_map keep (d f)) (same_name-true file other is))
    by false is = inl (at false is)

pub sync-only : (old new : List Disk) (file : FileName) → Adds (IsSyncing (now old) file) old new
    → StaysSyncing old new
sync-only old new file a =
    adds-weaker (IsSyncing (now old) file) (OnlySyncs (now old)) old new (λ e is. syncing (now old) e file is) a

-- a file that was synced, synced again
again : (f : FileState) → keep (keep f) ≡ keep f
again f = by f.removed refl
  where
    by : (b : Bool) → f.removed ≡ b → keep (keep f) ≡ keep f
    by true is =
        let same : keep f ≡ f = ap (λ (b : Bool). cond b f (whole (f.kept ++ f.pending))) is in ap keep same
    by false is =
        let same : keep f ≡ whole (f.kept ++ f.pending) =
        ap (λ (b : Bool). cond b f (whole (f.kept ++ f.pending))) is in
        ap keep same ∙ ap whole (append-nil (f.kept ++ f.pending)) ∙ sym same

pub kept-again : (o : Option FileState) → option_map keep (option_map keep o) ≡ option_map keep o
kept-again None = refl
kept-again (Some f) = ap (λ (f : FileState). Some f) (again f)

either-then : (a b c : Option FileState) → (b ≡ a) ⊎ (b ≡ option_map keep a) → (c ≡ b) ⊎ (c ≡ option_map keep b)
    → (c ≡ a) ⊎ (c ≡ option_map keep a)
either-then a b c (inl first) (inl second) = inl (second ∙ first)
either-then a b c (inr first) (inl second) = inr (second ∙ first)
either-then a b c (inl first) (inr second) = inr (second ∙ ap (λ (o : Option FileState). option_map keep o) first)
either-then a b c (inr first) (inr second) =
    inr (second ∙ ap (λ (o : Option FileState). option_map keep o) first ∙ kept-again a)

pub only-then : (old mid new : List Disk) → StaysSyncing old mid → StaysSyncing mid new → StaysSyncing old new
only-then old mid new first second =
    let here = adds-now (OnlySyncs (now old)) old mid first (syncs-none (now old)) in
    adds-step (OnlySyncs (now old)) (OnlySyncs (now mid)) old mid new first second
    (λ e is file. either-then (now old file) (now mid file) (e file) (here file) (is file))

-- calls that leave all moments as they are, others, and such ones again
pub only-through : (a b c d : List Disk) → b ≡ a → StaysSyncing b c → d ≡ c → StaysSyncing a d
only-through a b c d first stays last =
    subst (λ (l : List Disk). StaysSyncing a l) (sym last) (subst (λ (l : List Disk). StaysSyncing l c) first stays)

-- and a new file behind them
pub begins-one : (old mid new : List Disk) (number : ℕ)
    → ((m : ℕ) → IsListed (now old) (log_of m) → m < number) → StaysSyncing old mid
    → StaysBeside (log_of number) mid new → BeginsOne old new
begins-one old mid new number above first second =
    let here = adds-now (OnlySyncs (now old)) old mid first (syncs-none (now old)) in
    record {
      number = number;
      above = above;
      each = adds-step (SyncsOthers (log_of number) (now old)) (KeepsOthers (log_of number) (now mid)) old mid new
          (adds-weaker (OnlySyncs (now old)) (SyncsOthers (log_of number) (now old)) old mid
          (λ e is other apart. is other) first) second
          (λ e is other apart. either-then (now old other) (now mid other) (e other) (here other)
          (inl (is other apart)));
    }

-- ---- what the disk shows of them

kept-shows : (o : Option FileState) → file_content (option_map keep o) ≡ file_content o
kept-shows None = refl
kept-shows (Some f) = by f.removed refl
  where
    by : (b : Bool) → f.removed ≡ b → file_content (Some (keep f)) ≡ file_content (Some f)
    by true is = ap (λ (b : Bool). file_content (Some (cond b f (whole (f.kept ++ f.pending))))) is
    by false is =
        ap (λ (b : Bool). file_content (Some (cond b f (whole (f.kept ++ f.pending))))) is
        ∙ ap Some (append-nil (f.kept ++ f.pending))
        ∙ sym (ap (λ (b : Bool). cond b None (Some (f.kept ++ f.pending))) is)

either-shows : (a b : Option FileState) → (b ≡ a) ⊎ (b ≡ option_map keep a) → file_content b ≡ file_content a
either-shows a b (inl same) = ap file_content same
either-shows a b (inr synced) = ap file_content synced ∙ kept-shows a

pub synced-shows : (old new : List Disk) (file : FileName) → StaysSyncing old new
    → contents (now new) file ≡ contents (now old) file
synced-shows old new file a =
    either-shows (now old file) (now new file)
    (adds-now (OnlySyncs (now old)) old new a (syncs-none (now old)) file)

pub begun-shows : (old new : List Disk) (b : BeginsOne old new) (file : FileName)
    → same_name (log_of b.number) file ≡ false → contents (now new) file ≡ contents (now old) file
begun-shows old new b file apart =
    either-shows (now old file) (now new file)
    (adds-now (SyncsOthers (log_of b.number) (now old)) old new b.each (λ other apart. inl refl) file apart)
