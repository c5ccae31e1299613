-- The log files that a disk shows, and their text.
use Rattle.std.specs.Prelude.{◌≡◌, ◌^◌, ℕ, zero, suc, List, [], ◌∷◌, Option, Some, None, flat_map, IsTrue}
use Rattle.qq_disk.specs.Disk.{Disk, contents, now}
use Rattle.qq_disk.specs.Facts.{DiskFacts}
use Rattle.qq_disk.specs.Image.{log_of}
use Rattle.qq_dump.specs.Text.{file_text}

-- a log file, by its number
pub record LogFile : Type 0 where
  pub number : ℕ
  pub bytes : List ℕ

abbrev pub log_text : LogFile → List ℕ
log_text file = file_text file.number file.bytes

abbrev pub dump_text : List LogFile → List ℕ
dump_text files = flat_map log_text files

-- a file more, where it is there
abbrev pub with_file : ℕ → Option (List ℕ) → List LogFile → List LogFile
with_file n None files = files
with_file n (Some bytes) files = record { number = n; bytes = bytes } ∷ files

-- those with a number from n on, of so many numbers
abbrev pub files_from : Disk → ℕ → ℕ → List LogFile
files_from d n zero = []
files_from d n (suc count) = with_file n (contents d (log_of n)) (files_from d (suc n) count)

-- all, in the order of their numbers
unfoldable pub log_files : Disk → List LogFile
log_files d = files_from d 0 (2 ^ 64)

-- These are the log files of a disk. One that tells nothing may have shown any.
abbrev pub AreShown : {D : Type 0} → DiskFacts D → D → List LogFile → Type 0
AreShown facts disk files = IsTrue (facts.tells disk) → files ≡ log_files (now (facts.past disk))
