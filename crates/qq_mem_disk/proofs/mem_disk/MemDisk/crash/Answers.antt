use Rattle.std.proofs.Common.{rules}
use Rattle.qq_mem_disk.specs.Files.{disk_of}
use Rattle.qq_mem_disk.specs.Crashed.{IsCrash}
use Rattle.qq_mem_disk.proofs.Steps.{crash-image}
use Rattle.qq_mem_disk.proofs.mem_disk.MemDisk.crash.Goals as goal

pub returns-clause-image : goal.returns-clause-image
returns-clause-image c =
    let crash : IsCrash c.args.image.now (disk_of c.args.self.store.files) (disk_of c.new.result.files) = search
    rules in
    crash-image c.args.image.now (disk_of c.args.self.store.files) (disk_of c.new.result.files) crash
