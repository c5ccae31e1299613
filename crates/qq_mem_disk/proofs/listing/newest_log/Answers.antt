use Rattle.std.proofs.Common.{◌≡◌, Option, None, subst, sym, rules}
use Rattle.std.specs.BTreeMap.{IsOrdered}
use Rattle.qq_disk.specs.declared.name.FileName.{FileName}
use Rattle.qq_disk.specs.Name.{name_cmp}
use Rattle.qq_disk.specs.Image.{IsNewestLog}
use Rattle.qq_mem_disk.specs.Files.{disk_of}
use Rattle.qq_mem_disk.specs.Listing.{last_log}
use Rattle.qq_mem_disk.proofs.Newest.{newest_of}
use Rattle.qq_mem_disk.proofs.listing.newest_log.Goals as goal

pub returns : goal.returns
returns c =
    let last : c.loop-name.newest ≡ last_log c.args.removed_back None c.args.files.now.entries = search rules in
    let ordered : IsOrdered name_cmp c.args.files.now = search rules in
    subst (λ (newest : Option FileName). IsNewestLog (disk_of c.args.files.now) c.args.removed_back newest)
    (sym last) (newest_of c.args.removed_back c.args.files.now ordered)
