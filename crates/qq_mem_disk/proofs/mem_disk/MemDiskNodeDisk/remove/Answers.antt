use Rattle.std.proofs.Common.{◌≡◌, ◌∷◌, inr, refl, rules}
use Rattle.qq_disk.specs.Disk.{now, remove}
use Rattle.qq_disk.specs.Moments.{IsRemoving}
use Rattle.qq_mem_disk.specs.Store.{past_of}
use Rattle.qq_mem_disk.proofs.Steps.{one_more}
use Rattle.qq_mem_disk.proofs.mem_disk.MemDiskNodeDisk.remove.Goals as goal

pub returns-clause-moments : goal.returns-clause-moments
returns-clause-moments c =
    let old = past_of c.args.self.now.store in
    let new = past_of c.remove.new.self in
    let is : new ≡ remove (now old) c.args.file ∷ old = search rules in
    one_more (IsRemoving (now old) c.args.file) (remove (now old) c.args.file) old new is (inr refl)
