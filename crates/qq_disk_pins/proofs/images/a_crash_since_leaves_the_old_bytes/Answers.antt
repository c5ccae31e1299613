use Rattle.std.proofs.Common.{◌≡◌, ◌≤◌, ℕ, List, ◌++◌, length, Some}
use Rattle.qq_base.proofs.Lists.{AllByRecursion-weaker}
use Rattle.qq_disk.specs.Crash.{Remains, IsImage, Leaves}
use Rattle.qq_disk.specs.Disk.{Disk}
use Rattle.qq_disk.specs.Records.{Extends}
use Rattle.qq_disk_pins.proofs.images.a_crash_since_leaves_the_old_bytes.Goals as goal

pub returns : goal.returns
returns c = λ file kept most old new leaves. (
  leaves.more,
  leaves.is,
  AllByRecursion-weaker (Leaves (λ (i : Remains). Extends kept most (i file)))
      (λ (d : Disk). (i : Remains) → IsImage d i
      → (tail : List ℕ) × (i file ≡ Some (kept ++ tail)) × (length tail ≤ most))
      (λ d left i is. ((left i is).more, (left i is).is, (left i is).fits)) leaves.more leaves.each,
)
