-- What a crash makes of a disk.
use Rattle.std.proofs.Common.{◌≡◌, ◌≤◌, ◌∷◌, ◌++◌, [], List, length, Option, Some, None, ℕ, refl, inl, inr, ap, sym, subst, ◌∙◌, arith}
use Rattle.std.specs.Prelude.{option_map}
use Rattle.qq_disk.specs.declared.name.FileName.{FileName}
use Rattle.qq_disk.specs.declared.image.Image.{Image}
use Rattle.qq_disk.specs.Disk.{Disk, now, contents, file_content, whole}
use Rattle.qq_disk.specs.Crash.{MayLeave, IsImage, Remains, reopen}
use Rattle.qq_disk.specs.Image.{image_of}
use Rattle.qq_disk.proofs.Crashes.{image_shown}
use Rattle.qq_disk.proofs.Named.{named}
use Rattle.qq_ports.specs.Yard.{IsNew, IsOpened, IsAfterCrash}

pub new_again : (image : Image) (past after : List Disk) → IsNew past → IsAfterCrash image past after
    → after ≡ (λ _. None) ∷ []
new_again image past after new crash =
    crash.alone
    ∙ ap (λ (d : Disk). d ∷ [])
    (crash.left.left ∙ ap (λ (d : Disk). reopen (image_of image crash.left.newest d)) (ap now new))

pub leaves_image : (image : Image) (past after : List Disk) → IsAfterCrash image past after
    → IsImage (now past) (contents (now after))
leaves_image image past after crash =
    let left = image_of image crash.left.newest (now past) in
    λ file.
    subst (λ (o : Option (List ℕ)). MayLeave (now past file) o)
    (sym (ap (λ (d : Disk). contents d file) crash.left.left ∙ image_shown left file))
    (named image crash.left.newest (now past) file)

-- ---- a disk that was just opened

pub new_opened : (past : List Disk) → past ≡ (λ _. None) ∷ [] → IsOpened past
new_opened past is = record { held = λ file. None; is = is }

pub crash_opened : (image : Image) (past after : List Disk) → IsAfterCrash image past after → IsOpened after
crash_opened image past after crash = record {
  held = image_of image crash.left.newest (now past);
  is = crash.alone ∙ ap (λ (d : Disk). d ∷ []) crash.left.left;
}

pub opened_alone : (past : List Disk) → IsOpened past → past ≡ now past ∷ []
opened_alone past opened = opened.is ∙ ap (λ (d : Disk). d ∷ []) (sym (ap now opened.is))

left_whole : (held left : Option (List ℕ)) → MayLeave (option_map whole held) left
    → left ≡ file_content (option_map whole held)
left_whole None None may = refl
left_whole None (Some bytes) may = absurd may
left_whole (Some bytes) None (inl unsynced) = absurd cc
left_whole (Some bytes) None (inr removed) = absurd cc
left_whole (Some bytes) (Some left) torn = ap Some (torn.is ∙ ap (λ (tail : List ℕ). bytes ++ tail) (empty torn.tail torn.fits))
  where
    empty : (tail : List ℕ) → length tail ≤ 0 → tail ≡ []
    empty [] fits = refl
    empty (b ∷ tail) fits = absurd (omega (arith, fits))

pub opened_kept : (past : List Disk) (left : Remains) (file : FileName) → IsOpened past → IsImage (now past) left
    → left file ≡ contents (now past) file
opened_kept past left file opened image =
    let here : now past ≡ reopen opened.held = ap now opened.is in
    left_whole (opened.held file) (left file)
    (subst (λ (d : Disk). MayLeave (d file) (left file)) here (image file))
    ∙ ap (λ (d : Disk). contents d file) (sym here)
