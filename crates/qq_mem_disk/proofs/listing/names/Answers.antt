use Rattle.std.proofs.Common.{◌≡◌, List, subst, sym, rules}
use Rattle.std.specs.BTreeMap.{IsOrdered}
use Rattle.qq_disk.specs.declared.name.FileName.{FileName}
use Rattle.qq_disk.specs.Disk.{IsListing}
use Rattle.qq_disk.specs.Name.{name_cmp}
use Rattle.qq_mem_disk.specs.Files.{disk_of}
use Rattle.qq_mem_disk.specs.Listing.{listed_names}
use Rattle.qq_mem_disk.proofs.Listed.{listing}
use Rattle.qq_mem_disk.proofs.listing.names.Goals as goal

pub returns : goal.returns
returns c =
    let all : c.loop-name.names.items ≡ listed_names c.args.files.now.entries = search rules in
    let ordered : IsOrdered name_cmp c.args.files.now = search rules in
    subst (λ (names : List FileName). IsListing (disk_of c.args.files.now) names) (sym all)
    (listing c.args.files.now ordered)
