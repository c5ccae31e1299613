-- One call is one moment more.
use Rattle.std.proofs.Common.{◌≡◌, ◌∷◌, ℕ, List, length, sym, ap, ◌∙◌, inr, arith, take_all, Option, subst}
use Rattle.qq_disk.specs.declared.name.FileName.{FileName}
use Rattle.qq_disk.specs.declared.image.Image.{Image}
use Rattle.qq_disk.specs.Disk.{Disk, append, contents}
use Rattle.qq_disk.specs.Moments.{Adds, IsAppending}
use Rattle.qq_disk.specs.Crash.{IsImage, MayLeave}
use Rattle.qq_disk.specs.Image.{image_of}
use Rattle.qq_disk.proofs.Moments.{adds-one}
use Rattle.qq_disk.proofs.Crashes.{image_shown}
use Rattle.qq_disk.proofs.Named.{named}
use Rattle.qq_mem_disk.specs.Crashed.{IsCrash}

pub one_more : (P : Disk → Type 0) (d : Disk) (old new : List Disk) → new ≡ d ∷ old → P d → Adds P old new
one_more P d old new is p = subst (λ (ds : List Disk). Adds P old ds) (sym is) (adds-one P d old p)

-- all the bytes are a first part of them
pub whole_part : (d : Disk) (file : FileName) (bytes : List ℕ)
    → IsAppending d file bytes (append d file bytes)
whole_part d file bytes =
    inr (length bytes, ap (λ (bs : List ℕ). append d file bs) (sym (take_all (length bytes) bytes (omega arith))))

-- a crash leaves an image
pub crash-image : (image : Image) (old new : Disk) → IsCrash image old new → IsImage old (contents new)
crash-image image old new crash = λ file.
    subst (λ (o : Option (List ℕ)). MayLeave (old file) o)
    (sym (ap (λ (d : Disk). contents d file) crash.left ∙ image_shown (image_of image crash.newest old) file))
    (named image crash.newest old file)
