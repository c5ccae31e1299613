use Rattle.std.proofs.Common.{◌≡◌, ◌∷◌, rules}
use Rattle.qq_disk.specs.Disk.{now, append}
use Rattle.qq_disk.specs.Moments.{IsAppending}
use Rattle.qq_mem_disk.specs.Store.{past_of}
use Rattle.qq_mem_disk.proofs.Steps.{one_more, whole_part}
use Rattle.qq_mem_disk.proofs.mem_disk.MemDiskNodeDisk.append.Goals as goal

pub returns-clause-moments : goal.returns-clause-moments
returns-clause-moments c =
    let old = past_of c.args.self.now.store in
    let new = past_of c.append.new.self in
    let is : new ≡ append (now old) c.args.file c.args.bytes.now ∷ old = search rules in
    one_more (IsAppending (now old) c.args.file c.args.bytes.now) (append (now old) c.args.file c.args.bytes.now)
    old new is (whole_part (now old) c.args.file c.args.bytes.now)
