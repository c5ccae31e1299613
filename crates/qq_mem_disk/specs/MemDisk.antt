-- A disk in memory: what it held at each moment, and which calls it fails.
use Rattle.std.specs.Prelude.{List}
use Rattle.qq_disk.specs.Disk.{Disk}
use Rattle.qq_mem_disk.specs.declared.counter.Counter.{Counter}
use Rattle.qq_mem_disk.specs.declared.mem_disk.MemDisk.{MemDisk}
use Rattle.qq_mem_disk.specs.Store as store

-- the newest first
abbrev pub past_of : MemDisk → List Disk
past_of disk = store.past_of disk.store

abbrev pub counter_of : MemDisk → Counter
counter_of disk = disk.counter
