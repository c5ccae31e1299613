-- Files by their names, as a disk.
use Rattle.std.specs.Prelude.{◌≡◌}
use Rattle.std.specs.BTreeMap.{BTreeMap, get}
use Rattle.qq_disk.specs.declared.name.FileName.{FileName}
use Rattle.qq_disk.specs.Disk.{Disk, FileState}
use Rattle.qq_disk.specs.Name.{name_cmp}
use Rattle.qq_mem_disk.specs.declared.change.Before.{Before}
use Rattle.qq_mem_disk.specs.Change.{undo}

abbrev pub disk_of : BTreeMap FileName FileState → Disk
disk_of files = get name_cmp files

-- what stood under the name leads back from the new disk to the old one
abbrev pub IsUndone : FileName → Before → Disk → Disk → Type 0
IsUndone file before old new = undo (record { file = file; before = before }) new ≡ old
