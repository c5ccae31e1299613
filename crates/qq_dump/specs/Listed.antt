-- The log files among the names that a disk lists.
use Rattle.std.specs.Prelude.{ℕ, List, [], ◌∷◌, flat_map, map, nat_eq, if◌then◌else◌}
use Rattle.qq_disk.specs.declared.name.FileName.{FileName}
use Rattle.qq_disk.specs.Disk.{Disk, content}
use Rattle.qq_disk.specs.Image.{log_of}
use Rattle.qq_disk.specs.Name.{rank}
use Rattle.qq_dump.specs.Files.{LogFile}

-- the number of a file, if it is one of the log
abbrev pub log_number : FileName → List ℕ
log_number file = if nat_eq (rank file.kind) 0 then file.number ∷ [] else []

abbrev pub log_numbers : List FileName → List ℕ
log_numbers names = flat_map log_number names

-- the log file of a number as the disk shows it
abbrev pub file_of : Disk → ℕ → LogFile
file_of d n = record { number = n; bytes = content d (log_of n) }

abbrev pub files_of : Disk → List ℕ → List LogFile
files_of d numbers = map (file_of d) numbers
