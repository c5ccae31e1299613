use Rattle.std.proofs.Common.{btree_map_len}
use Rattle.qq_mem_disk.specs.Files.{disk_of}
use Rattle.qq_mem_disk.proofs.Moved.{Moves}
use Rattle.qq_mem_disk.proofs.crash.crash_files.Given as goal

abbrev pub invariant-loop-name : goal.invariant-loop-name
invariant-loop-name l = Moves l.image l.newest (disk_of l.fn.files) (disk_of l.rest) (disk_of l.after)

abbrev pub decreases-loop-name : goal.decreases-loop-name
decreases-loop-name l = btree_map_len l.rest
