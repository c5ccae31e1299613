-- What the log promises of each image, at each moment.
use Rattle.std.specs.Prelude.{◌≡◌, ◌≤◌, ◌<◌, ℕ, true, false, List, [], ◌∷◌, ◌++◌, Option, Some, None, option_map, unwrap_or}
use Rattle.std.specs.List.{AllByRecursion}
use Rattle.qq_disk.specs.declared.name.FileName.{FileName}
use Rattle.qq_disk.specs.Disk.{Disk, FileState, now, sync, file_content}
use Rattle.qq_disk.specs.Moments.{Adds}
use Rattle.qq_base.specs.Fronts.{IsFront}
use Rattle.qq_wal_chain.specs.Format.{Format}
use Rattle.qq_wal_chain.specs.Records.{encode_all, records, file_records, replay, Restate}
use Rattle.qq_wal_chain.specs.Chain.{Logs, Found, Reading, chain, has_header, reading}
use Rattle.qq_wal_chain.specs.Image.{Files, files_of, IsLogImage, MayLeaveLog, shown_logs, is_removed}

-- what was found is what some of the given ops come to, from the first on, with all the noticed ones among them
pub record Recovers (F : Format) (noticed given : List F.Record) (found : Option F.World) : Type 0 where
  pub ops : List F.Record
  pub held : IsFront noticed ops
  pub front : IsFront ops given
  pub world : F.World
  pub is : found ≡ Some world
  pub value : replay F ops (Some F.start) ≡ Some world

abbrev pub found_world : (F : Format) → Option (Found F) → Option F.World
found_world F found = option_map (λ f. f.world) found

-- what a crash leaves of removed files has no say in what is read
abbrev pub IgnoresRemoved : (F : Format) → ℕ → Files → Type 0
IgnoresRemoved F bound files =
    (one other : Logs) → IsLogImage F files one → IsLogImage F files other
    → ((n : ℕ) → is_removed (files n) ≡ false → one n ≡ other n) → reading F bound one ≡ reading F bound other

-- every image recovers, and files that were removed play no part
pub record Keeps (F : Format) (bound : ℕ) (noticed given : List F.Record) (files : Files) : Type 0 where
  pub recovers : (logs : Logs) → IsLogImage F files logs
      → Recovers F noticed given (found_world F ((reading F bound logs).found))
  pub alike : IgnoresRemoved F bound files

-- every image reads the same
abbrev pub IsSteady : (F : Format) → ℕ → Reading F → Files → Type 0
IsSteady F bound r files = (logs : Logs) → IsLogImage F files logs → reading F bound logs ≡ r

-- a log file that was synced, and bytes that were added since
abbrev pub log_file : List ℕ → List ℕ → FileState
log_file kept pending = record { kept = kept; pending = pending; synced = true; removed = false }

-- a log is written to its newest file n: header and records that a sync has kept, and bytes that none has yet
pub record IsLog (F : Format) (bound n : ℕ) (h : F.Header) (before : Found F) (kept : List F.Record)
    (pending : List ℕ) (files : Files) : Type 0 where
  pub is : files n ≡ Some (log_file (F.encode_header h ++ encode_all F n kept) pending)
  pub header_fits : F.HeaderFits h
  pub fit : AllByRecursion (F.Fits n) kept
  pub number : F.number h ≡ n
  pub back : F.previous h < n
  pub within : n ≤ bound
  pub older : (logs : Logs) → IsLogImage F files logs → chain F bound logs (F.previous h) (F.good h) ≡ Some before
  pub above : (logs : Logs) → IsLogImage F files logs → (m : ℕ) → n < m → m ≤ bound → has_header F (logs m) ≡ false

-- the same of a disk, with whole records that wait for a sync
pub record IsRunning (F : Format) (bound n : ℕ) (h : F.Header) (before : Found F) (kept pending : List F.Record)
    (d : Disk) : Type 0 where
  pub log : IsLog F bound n h before kept (encode_all F n pending) (files_of d)
  pub fit : AllByRecursion (F.Fits n) pending

-- ---- what such a log has, as the disk says it

abbrev pub file_bytes_of : (FileState → List ℕ) → Option FileState → List ℕ
file_bytes_of part None = []
file_bytes_of part (Some f) = part f

abbrev pub kept_records : (F : Format) → ℕ → Files → List F.Record
kept_records F n files = file_records F n (file_bytes_of (λ f. f.kept) (files n))

abbrev pub pending_records : (F : Format) → ℕ → Files → List F.Record
pending_records F n files = records F n (file_bytes_of (λ f. f.pending) (files n))

abbrev pub found_behind : (F : Format) → ℕ → F.Header → Files → Found F
found_behind F bound h files =
    unwrap_or (chain F bound (shown_logs files) (F.previous h) (F.good h)) (record { files = []; world = F.start })

-- a log is written to file n with this header, and all else is as the disk says it
abbrev pub IsRunningLog : (F : Format) → ℕ → ℕ → F.Header → Disk → Type 0
IsRunningLog F bound n h d =
    let files = files_of d in
    IsRunning F bound n h (found_behind F bound h files) (kept_records F n files) (pending_records F n files) d

-- what a new file goes on from: each image reads as the disk does, the file's number is above the newest and isn't
-- listed, its header names what is read as the newest file, and its first records restate what that comes to
pub record Continues (F : Format) (bound : ℕ) (before : Found F) (n : ℕ) (h : F.Header) (carries : List F.Record)
    (files : Files) : Type 0 where
  pub settled : IsSteady F bound (reading F bound (shown_logs files)) files
  pub found : (reading F bound (shown_logs files)).found ≡ Some before
  pub newer : (reading F bound (shown_logs files)).file < n
  pub within : n ≤ bound
  pub free : file_content (files n) ≡ None
  pub number : F.number h ≡ n
  pub previous : F.previous h ≡ (reading F bound (shown_logs files)).file
  pub good : F.good h ≡ (reading F bound (shown_logs files)).good
  pub header_fits : F.HeaderFits h
  pub fit : AllByRecursion (F.Fits n) carries
  pub restate : Restate F before.world carries

-- of each file that isn't removed a crash leaves one thing
abbrev pub IsSettled : (F : Format) → Files → Type 0
IsSettled F files = (n : ℕ) → is_removed (files n) ≡ false → (one other : Option (List ℕ))
    → MayLeaveLog F n (files n) one → MayLeaveLog F n (files n) other → one ≡ other

abbrev pub Promises : (F : Format) → ℕ → List F.Record → List F.Record → Disk → Type 0
Promises F bound noticed given d = Keeps F bound noticed given (files_of d)

-- all that was given is on the disk, written if not yet kept
abbrev pub Holds : (F : Format) → ℕ → List F.Record → Disk → Type 0
Holds F bound given d =
    replay F given (Some F.start) ≡ found_world F ((reading F bound (shown_logs (files_of d))).found)

-- what was promised is promised at each moment since
abbrev pub StaysPromised : (F : Format) → ℕ → List Disk → List Disk → Type 0
StaysPromised F bound old new = (noticed given : List F.Record) → Promises F bound noticed given (now old)
    → Adds (Promises F bound noticed given) old new

-- the disk once these files are synced, in this order
abbrev pub sync_all : Disk → List FileName → Disk
sync_all d [] = d
sync_all d (file ∷ files) = sync_all (sync d file) files
