-- A named image is one that a crash may leave.
use Rattle.std.proofs.Common.{◌≡◌, ◌≤◌, ◌++◌, ◌||◌, ℕ, Bool, true, false, not, cond, List, length, Option, Some, None, refl, inr, arith, length-take}
use Rattle.qq_disk.specs.declared.name.FileName.{FileName}
use Rattle.qq_disk.specs.declared.image.Tail.{Tail}
use Rattle.qq_disk.specs.declared.image.Tail.TheVariants.{Cut, Junk, Whole}
use Rattle.qq_disk.specs.declared.image.Image.{Image}
use Rattle.qq_disk.specs.Disk.{Disk, FileState}
use Rattle.qq_disk.specs.Crash.{MayLeave, IsImage}
use Rattle.qq_disk.specs.Image.{tail_of, remainder, is_file, image_of}

length-tail_of : (tail : Tail) (pending : List ℕ) → length (tail_of tail pending) ≤ length pending
length-tail_of (Cut count) pending = omega (arith, length-take count pending)
length-tail_of (Junk bytes) pending = omega (arith, length-take (length pending) bytes)
length-tail_of Whole pending = omega arith

removed_gone : (back removed : Bool) → (back || not removed) ≡ false → removed ≡ true
removed_gone true removed e = absurd cc
removed_gone false true e = refl
removed_gone false false e = absurd cc

left_one : (image : Image) (tail : Tail) (f : FileState) (left : Bool)
    → (image.removed_back || not f.removed) ≡ left
    → MayLeave (Some f) (cond left (Some (f.kept ++ tail_of tail f.pending)) None)
left_one image tail f true e =
    record { tail = tail_of tail f.pending; is = refl; fits = length-tail_of tail f.pending }
left_one image tail f false e = inr (removed_gone image.removed_back f.removed e)

pub remainder-may_leave : (image : Image) (newest : Bool) (o : Option FileState)
    → MayLeave o (remainder image newest o)
remainder-may_leave image newest None = tt
remainder-may_leave image newest (Some f) =
    left_one image (cond newest image.newest_log image.others) f (image.removed_back || not f.removed) refl

pub named : (image : Image) (newest : Option FileName) (d : Disk) → IsImage d (image_of image newest d)
named image newest d = λ file. remainder-may_leave image (is_file newest file) (d file)
