use Rattle.std.proofs.Common.{◌≡◌, ◌∷◌, rules}
use Rattle.qq_disk.specs.Disk.{now, append}
use Rattle.qq_disk_pins.specs.WornDisk.{past_of, first_half}
use Rattle.qq_disk_pins.proofs.Worn.{is_half, adds_half}
use Rattle.qq_disk_pins.proofs.worn_disk.WornDiskNodeDisk.append.Goals as goal

pub returns-in-Ok-clause-err : goal.returns-in-Ok-clause-err
returns-in-Ok-clause-err c =
    let old = past_of c.args.self.now in
    let new = past_of c.fail.new.self in
    let is : new ≡ append (now old) c.args.file (first_half c.args.bytes.now) ∷ old = search rules in
    is_half old new c.args.file c.args.bytes.now is

pub returns-in-Ok-clause-moments : goal.returns-in-Ok-clause-moments
returns-in-Ok-clause-moments c =
    let old = past_of c.args.self.now in
    let new = past_of c.fail.new.self in
    let is : new ≡ append (now old) c.args.file (first_half c.args.bytes.now) ∷ old = search rules in
    adds_half old new c.args.file c.args.bytes.now is
