-- What a crash leaves of the log files of a disk.
use Rattle.std.specs.Prelude.{◌≡◌, ◌⊎◌, ◌+◌, ◌<◌, ℕ, Bool, true, false, List, ◌++◌, length, take, drop, Option, Some, None, nat_eq, if◌then◌else◌}
use Rattle.qq_disk.specs.Disk.{Disk, FileState, file_content}
use Rattle.qq_disk.specs.Image.{log_of}
use Rattle.qq_disk.specs.declared.image.Image.{Image}
use Rattle.qq_disk.specs.declared.image.Tail.{Tail}
use Rattle.qq_disk.specs.declared.image.Tail.TheVariants.{Junk}
use Rattle.qq_disk.specs.Crash.{Remains, IsTorn}
use Rattle.qq_wal_chain.specs.Format.{Format}
use Rattle.qq_wal_chain.specs.Records.{file_records, end_of}
use Rattle.qq_wal_chain.specs.Chain.{Logs}

-- the log files of a disk, by their numbers
abbrev pub Files : Type 0
Files = ℕ → Option FileState

abbrev pub files_of : Disk → Files
files_of d = λ n. d (log_of n)

abbrev pub logs_of : Remains → Logs
logs_of i = λ n. i (log_of n)

-- the same with another file under a number
abbrev pub put : {A : Type 0} → (ℕ → A) → ℕ → A → ℕ → A
put f n a = λ m. if nat_eq n m then a else f m

-- all that was written to a file
abbrev pub all_bytes : FileState → List ℕ
all_bytes f = f.kept ++ f.pending

-- where the record of that index stands
abbrev pub place : (F : Format) → ℕ → List ℕ → ℕ → ℕ
place F n bytes k = end_of F n (take k (file_records F n bytes))

-- the premise on what a crash may leave behind what was synced: at the header's place, and at each place of a
-- record that was written, no whole one stands but the one that was written there. Bytes that are cut keep it
-- always.
pub record IsHonest (F : Format) (n : ℕ) (f : FileState) (bytes : List ℕ) : Type 0 where
  pub header : (h : F.Header) → length f.kept < F.header_size → F.read_header bytes ≡ Some h
      → F.read_header (all_bytes f) ≡ Some h
  pub record_at : (k : ℕ) (r : F.Record)
      → length f.kept < place F n (all_bytes f) k + length (F.encode n r)
      → F.read n (drop (place F n (all_bytes f) k) bytes) ≡ Some r
      → F.read n (drop (place F n (all_bytes f) k) (all_bytes f)) ≡ Some r

abbrev pub MayLeaveLog : (F : Format) → ℕ → Option FileState → Option (List ℕ) → Type 0
MayLeaveLog F n None None = Unit {0}
MayLeaveLog F n None (Some bytes) = ⊥
MayLeaveLog F n (Some f) None = (f.synced ≡ false) ⊎ (f.removed ≡ true)
MayLeaveLog F n (Some f) (Some bytes) = IsTorn f bytes × IsHonest F n f bytes

-- what a crash may leave of the log files, under the premise
abbrev pub IsLogImage : (F : Format) → Files → Logs → Type 0
IsLogImage F files logs = (n : ℕ) → MayLeaveLog F n (files n) (logs n)

-- a named image that leaves no bytes but those that were written
abbrev pub is_junk : Tail → Bool
is_junk (Junk bytes) = true
is_junk _ = false

pub record HasNoJunk (image : Image) : Type 0 where
  pub newest_log : is_junk image.newest_log ≡ false
  pub others : is_junk image.others ≡ false

-- the log files as the disk shows them
abbrev pub shown_logs : Files → Logs
shown_logs files = λ n. file_content (files n)

abbrev pub is_removed : Option FileState → Bool
is_removed None = false
is_removed (Some f) = f.removed
