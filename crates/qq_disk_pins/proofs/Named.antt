-- What named images leave.
use Rattle.std.proofs.Common.{◌≡◌, ◌≤◌, ◌⊎◌, ◌||◌, Bool, true, false, not, cond, ◌++◌, Option, Some, None, refl, sym, ap, ◌∙◌, inl, inr, arith}
use Rattle.qq_disk.specs.declared.name.FileKind.TheVariants.{Log}
use Rattle.qq_disk.specs.declared.name.FileName.{FileName}
use Rattle.qq_disk.specs.declared.image.Tail.{Tail}
use Rattle.qq_disk.specs.declared.image.Tail.TheVariants.{Whole}
use Rattle.qq_disk.specs.declared.image.Image.{Image}
use Rattle.qq_disk.specs.Disk.{Disk, FileState, file_content, contents}
use Rattle.qq_disk.specs.Image.{tail_of, remainder, is_file, is_left, log_of, image_of, IsNewestLog}
use Rattle.qq_disk.proofs.Names.{same_name-refl}

or_true : (a : Bool) → (a || true) ≡ true
or_true true = refl
or_true false = refl

-- a file is left
is_there : (image : Image) (f : FileState) → (image.removed_back ≡ true) ⊎ (f.removed ≡ false)
    → (image.removed_back || not f.removed) ≡ true
is_there image f (inl back) = ap (λ (b : Bool). b || not f.removed) back
is_there image f (inr here) = ap (λ (b : Bool). image.removed_back || not b) here ∙ or_true image.removed_back

left_so : (image : Image) (at : Bool) (o : Option FileState) (f : FileState) → o ≡ Some f
    → (image.removed_back ≡ true) ⊎ (f.removed ≡ false)
    → remainder image at o ≡ Some (f.kept ++ tail_of (cond at image.newest_log image.others) f.pending)
left_so image at o f is there =
    ap (remainder image at) is
    ∙ ap (λ (b : Bool). cond b (Some (f.kept ++ tail_of (cond at image.newest_log image.others) f.pending)) None)
    (is_there image f there)

pub newest_left : (image : Image) (d : Disk) (file : FileName) (f : FileState) → d file ≡ Some f
    → (image.removed_back ≡ true) ⊎ (f.removed ≡ false)
    → image_of image (Some file) d file ≡ Some (f.kept ++ tail_of image.newest_log f.pending)
newest_left image d file f is there =
    ap (λ (b : Bool). remainder image b (d file)) (same_name-refl file) ∙ left_so image true (d file) f is there

pub other_left : (image : Image) (newest : Option FileName) (d : Disk) (file : FileName) (f : FileState)
    → d file ≡ Some f → is_file newest file ≡ false → (image.removed_back ≡ true) ⊎ (f.removed ≡ false)
    → image_of image newest d file ≡ Some (f.kept ++ tail_of image.others f.pending)
other_left image newest d file f is other there =
    ap (λ (b : Bool). remainder image b (d file)) other ∙ left_so image false (d file) f is there

pub none_left : (image : Image) (newest : Option FileName) (d : Disk) (file : FileName) (f : FileState)
    → d file ≡ Some f → image.removed_back ≡ false → f.removed ≡ true → image_of image newest d file ≡ None
none_left image newest d file f is back gone =
    let tail = cond (is_file newest file) image.newest_log image.others in
    let left = Some (f.kept ++ tail_of tail f.pending) in
    ap (remainder image (is_file newest file)) is
    ∙ ap (λ (b : Bool). cond (b || not f.removed) left None) back
    ∙ ap (λ (b : Bool). cond (not b) left None) gone

-- ---- all is kept

either_whole : (at : Bool) (x y : Tail) → x ≡ Whole → y ≡ Whole → cond at x y ≡ Whole
either_whole true x y ex ey = ex
either_whole false x y ex ey = ey

shown_by : (f : FileState) (removed : Bool)
    → cond (not removed) (Some (f.kept ++ f.pending)) None ≡ cond removed None (Some (f.kept ++ f.pending))
shown_by f true = refl
shown_by f false = refl

whole_one : (image : Image) (at : Bool) (o : Option FileState) → image.newest_log ≡ Whole → image.others ≡ Whole
    → image.removed_back ≡ false → remainder image at o ≡ file_content o
whole_one image at None newest others back = refl
whole_one image at (Some f) newest others back =
    ap (λ (t : Tail). cond (image.removed_back || not f.removed) (Some (f.kept ++ tail_of t f.pending)) None)
    (either_whole at image.newest_log image.others newest others)
    ∙ ap (λ (b : Bool). cond (b || not f.removed) (Some (f.kept ++ f.pending)) None) back
    ∙ shown_by f f.removed

pub whole_left : (image : Image) (newest : Option FileName) (d : Disk) (file : FileName) → image.newest_log ≡ Whole
    → image.others ≡ Whole → image.removed_back ≡ false → image_of image newest d file ≡ contents d file
whole_left image newest d file log others back = whole_one image (is_file newest file) (d file) log others back

-- ---- the newest log

is_log : (file : FileName) → file.kind ≡ Log → file ≡ log_of file.number
is_log file kind = λ i. record { kind = kind i; number = file.number }

left_log : (d : Disk) (back : Bool) (file : FileName) → file.kind ≡ Log → is_left back (d file) ≡ true
    → is_left back (d (log_of file.number)) ≡ true
left_log d back file kind left = ap (λ (n : FileName). is_left back (d n)) (sym (is_log file kind)) ∙ left

pub one_newest : (d : Disk) (back : Bool) (a b : Option FileName) → IsNewestLog d back a → IsNewestLog d back b
    → a ≡ b
one_newest d back None None a b = refl
one_newest d back None (Some y) none (kind, left, most) =
    absurd (let e : true ≡ false = sym (left_log d back y kind left) ∙ none y.number in cc)
one_newest d back (Some x) None (kind, left, most) none =
    absurd (let e : true ≡ false = sym (left_log d back x kind left) ∙ none x.number in cc)
one_newest d back (Some x) (Some y) (xkind, xleft, xmost) (ykind, yleft, ymost) =
    let below : x.number ≤ y.number = ymost x.number (left_log d back x xkind xleft) in
    let above : y.number ≤ x.number = xmost y.number (left_log d back y ykind yleft) in
    let same : x.number ≡ y.number = omega (arith, below, above) in
    ap (λ (n : FileName). Some n) (is_log x xkind ∙ ap log_of same ∙ sym (is_log y ykind))
