-- The moments of an append that adds half.
use Rattle.std.proofs.Common.{◌≡◌, ◌/◌, ◌∷◌, ℕ, List, length, inr, sym, ap, subst, refl}
use Rattle.qq_disk.specs.declared.name.FileName.{FileName}
use Rattle.qq_disk.specs.Disk.{Disk, now, append}
use Rattle.qq_disk.specs.Moments.{Adds, IsAppending}
use Rattle.qq_disk.proofs.Moments.{adds-one}
use Rattle.qq_disk_pins.specs.WornDisk.{first_half}

pub is_half : (old new : List Disk) (file : FileName) (bytes : List ℕ)
    → new ≡ append (now old) file (first_half bytes) ∷ old → IsAppending (now old) file bytes (now new)
is_half old new file bytes is = inr (length bytes / 2, ap now is)

pub adds_half : (old new : List Disk) (file : FileName) (bytes : List ℕ)
    → new ≡ append (now old) file (first_half bytes) ∷ old
    → Adds (IsAppending (now old) file bytes) old new
adds_half old new file bytes is =
    subst (λ (ds : List Disk). Adds (IsAppending (now old) file bytes) old ds) (sym is)
    (adds-one (IsAppending (now old) file bytes) (append (now old) file (first_half bytes)) old
    (inr (length bytes / 2, refl)))
