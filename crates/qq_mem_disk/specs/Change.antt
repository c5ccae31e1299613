-- How a change of a disk is undone, and so what the disk held at each moment.
use Rattle.std.specs.Prelude.{ℕ, List, [], ◌∷◌, ◌++◌, length, take, drop, Option, Some, None}
use Rattle.qq_disk.specs.Disk.{Disk, FileState, set}
use Rattle.qq_mem_disk.specs.declared.change.Mark.{Mark}
use Rattle.qq_mem_disk.specs.declared.change.Before.{Before}
use Rattle.qq_mem_disk.specs.declared.change.Before.TheVariants.{Absent, Earlier, Other}
use Rattle.qq_mem_disk.specs.declared.change.Change.{Change}

abbrev pub mark_of : FileState → Mark
mark_of f =
    record { length = length (f.kept ++ f.pending); kept = length f.kept; synced = f.synced; removed = f.removed }

-- the file with this mark, whose bytes are at the front of these
abbrev pub earlier : Mark → List ℕ → FileState
earlier mark bytes =
    record {
      kept = take mark.kept bytes;
      pending = drop mark.kept (take mark.length bytes);
      synced = mark.synced;
      removed = mark.removed;
    }

-- what stood under a name, by what stands there now
abbrev pub before_of : Before → Option FileState → Option FileState
before_of Absent now = None
before_of (Earlier mark) None = None
before_of (Earlier mark) (Some f) = Some (earlier mark (f.kept ++ f.pending))
before_of (Other f) now = Some f

-- the disk before the change
abbrev pub undo : Change → Disk → Disk
undo change d = set d change.file (before_of change.before (d change.file))

-- the moments before this one, the newest first, by the changes that led to it, the newest first
abbrev pub moments_before : Disk → List Change → List Disk
moments_before d [] = []
moments_before d (change ∷ changes) = undo change d ∷ moments_before (undo change d) changes
