-- What a store held at each moment.
use Rattle.std.specs.Prelude.{List, ◌∷◌, reverse}
use Rattle.qq_disk.specs.Disk.{Disk}
use Rattle.qq_mem_disk.specs.declared.store.Store.{Store}
use Rattle.qq_mem_disk.specs.Change.{moments_before}
use Rattle.qq_mem_disk.specs.Files.{disk_of}

-- the newest first
abbrev pub past_of : Store → List Disk
past_of store = disk_of store.files ∷ moments_before (disk_of store.files) (reverse store.changes.items)
