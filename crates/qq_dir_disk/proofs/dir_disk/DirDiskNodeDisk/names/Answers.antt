use Rattle.std.proofs.Common.{List, sym, subst}
use Rattle.std.specs.List.Sorted.{IsStrictlySortedBy}
use Rattle.qq_disk.specs.declared.name.FileName.{FileName}
use Rattle.qq_disk.specs.Name.{name_cmp}
use Rattle.qq_dir_disk.proofs.dir_disk.DirDiskNodeDisk.names.Goals as goal

pub returns-in-Err-clause-rising : goal.returns-in-Err-clause-rising
unfolding IsStrictlySortedBy
returns-in-Err-clause-rising g c =
    subst (λ (names : List FileName). IsStrictlySortedBy name_cmp names) (sym c.new.ensures.items) tt
