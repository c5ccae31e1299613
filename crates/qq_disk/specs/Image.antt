-- What a named image leaves of a disk.
use Rattle.std.specs.Prelude.{◌≡◌, ◌≤◌, ◌++◌, ◌||◌, ℕ, Bool, true, false, not, List, length, take, Option, Some, None, if◌then◌else◌}
use Rattle.qq_disk.specs.declared.name.FileKind.TheVariants.{Log}
use Rattle.qq_disk.specs.declared.name.FileName.{FileName}
use Rattle.qq_disk.specs.declared.image.Tail.{Tail}
use Rattle.qq_disk.specs.declared.image.Tail.TheVariants.{Cut, Junk, Whole}
use Rattle.qq_disk.specs.declared.image.Image.{Image}
use Rattle.qq_disk.specs.Name.{same_name}
use Rattle.qq_disk.specs.Disk.{Disk, FileState}
use Rattle.qq_disk.specs.Crash.{Remains}

-- what is left of the pending bytes
abbrev pub tail_of : Tail → List ℕ → List ℕ
tail_of (Cut count) pending = take count pending
tail_of (Junk bytes) pending = take (length pending) bytes
tail_of Whole pending = pending

-- whether a file is left: one that was removed is left where those come back
abbrev pub is_left : Bool → Option FileState → Bool
is_left back None = false
is_left back (Some f) = back || not f.removed

abbrev pub log_of : ℕ → FileName
log_of number = record { kind = Log; number = number }

-- the log file of greatest number among those that are left, None where none is
abbrev pub IsNewestLog : Disk → Bool → Option FileName → Type 0
IsNewestLog d back None = (k : ℕ) → is_left back (d (log_of k)) ≡ false
IsNewestLog d back (Some file) =
    (file.kind ≡ Log) × (is_left back (d file) ≡ true)
    × ((k : ℕ) → is_left back (d (log_of k)) ≡ true → k ≤ file.number)

abbrev pub is_file : Option FileName → FileName → Bool
is_file None file = false
is_file (Some newest) file = same_name newest file

-- what is left of one file
abbrev pub remainder : Image → Bool → Option FileState → Option (List ℕ)
remainder image newest None = None
remainder image newest (Some f) =
    let tail = if newest then image.newest_log else image.others in
    if image.removed_back || not f.removed then Some (f.kept ++ tail_of tail f.pending) else None

-- and of each, where this is the newest log
abbrev pub image_of : Image → Option FileName → Disk → Remains
image_of image newest d = λ file. remainder image (is_file newest file) (d file)
