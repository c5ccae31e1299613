-- Files that a call doesn't write to are left as they are.
use Rattle.std.proofs.Common.{◌≡◌, ℕ, List, take, Some, option_map, refl, ap, subst, ◌∙◌, inl, inr}
use Rattle.qq_disk.specs.declared.name.FileName.{FileName}
use Rattle.qq_disk.specs.Disk.{Disk, append_target, grow, keep, mark_removed, now}
use Rattle.qq_disk.specs.Image.{log_of}
use Rattle.qq_disk.specs.Moments.{Adds, IsAppending, IsRemoving, IsSyncing}
use Rattle.qq_disk.proofs.Moments.{adds-now, adds-step, adds-weaker}
use Rattle.qq_disk.proofs.Names.{set-other}
use Rattle.qq_wal.specs.Running.{KeepsOthers, StaysBeside}

keeps-none : (file : FileName) (d : Disk) → KeepsOthers file d d
keeps-none file d other apart = refl

appending : (d e : Disk) (file : FileName) (bytes : List ℕ) → IsAppending d file bytes e → KeepsOthers file d e
appending d e file bytes (inl same) other apart = ap (λ (d : Disk). d other) same
appending d e file bytes (inr (count, same)) other apart =
    ap (λ (d : Disk). d other) same
    ∙ set-other d file other (Some (grow (append_target (d file)) (take count bytes))) apart

syncing : (d e : Disk) (file : FileName) → IsSyncing d file e → KeepsOthers file d e
syncing d e file (inl same) other apart = ap (λ (d : Disk). d other) same
syncing d e file (inr same) other apart =
    ap (λ (d : Disk). d other) same ∙ set-other d file other (option_map keep (d file)) apart

removing : (d e : Disk) (file : FileName) → IsRemoving d file e → KeepsOthers file d e
removing d e file (inl same) other apart = ap (λ (d : Disk). d other) same
removing d e file (inr same) other apart =
    ap (λ (d : Disk). d other) same ∙ set-other d file other (option_map mark_removed (d file)) apart

pub append-beside : (old new : List Disk) (file : FileName) (bytes : List ℕ)
    → Adds (IsAppending (now old) file bytes) old new → StaysBeside file old new
append-beside old new file bytes a =
    adds-weaker (IsAppending (now old) file bytes) (KeepsOthers file (now old)) old new
    (λ e is. appending (now old) e file bytes is) a

pub sync-beside : (old new : List Disk) (file : FileName) → Adds (IsSyncing (now old) file) old new
    → StaysBeside file old new
sync-beside old new file a =
    adds-weaker (IsSyncing (now old) file) (KeepsOthers file (now old)) old new (λ e is. syncing (now old) e file is) a

pub remove-beside : (old new : List Disk) (file : FileName) → Adds (IsRemoving (now old) file) old new
    → StaysBeside file old new
remove-beside old new file a =
    adds-weaker (IsRemoving (now old) file) (KeepsOthers file (now old)) old new
    (λ e is. removing (now old) e file is) a

pub beside-then : (old mid new : List Disk) (file : FileName) → StaysBeside file old mid → StaysBeside file mid new
    → StaysBeside file old new
beside-then old mid new file first second =
    let here = adds-now (KeepsOthers file (now old)) old mid first (keeps-none file (now old)) in
    adds-step (KeepsOthers file (now old)) (KeepsOthers file (now mid)) old mid new first second
    (λ e is other apart. is other apart ∙ here other apart)

-- of a file by its number
pub beside-log : (n m : ℕ) (old new : List Disk) → n ≡ m → StaysBeside (log_of n) old new
    → StaysBeside (log_of m) old new
beside-log n m old new same stays = subst (λ (k : ℕ). StaysBeside (log_of k) old new) same stays
