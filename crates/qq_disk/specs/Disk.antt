-- A disk at one moment: what its files hold, and what the calls make of them.
use Rattle.std.specs.Prelude.{◌≡◌, ◌-◌, ℕ, Bool, true, false, min, List, [], ◌∷◌, ◌++◌, length, take, drop, Option, Some, None, option_map, unwrap_or, is_some, IsTrue, Contains, ◌↔◌, if◌then◌else◌}
use Rattle.std.specs.List.Sorted.{IsStrictlySortedBy}
use Rattle.qq_disk.specs.declared.name.FileName.{FileName}
use Rattle.qq_disk.specs.Name.{name_cmp, same_name}

-- a file: the bytes that a sync has kept and those that none has kept yet, whether the file was ever synced,
-- and whether it is removed
pub record FileState : Type 0 where
  pub kept : List ℕ
  pub pending : List ℕ
  pub synced : Bool
  pub removed : Bool

-- what a disk holds of each file, None where there was none
abbrev pub Disk : Type 0
Disk = FileName → Option FileState

-- the newest of a list of moments
abbrev pub now : List Disk → Disk
now [] = λ _. None
now (d ∷ past) = d

-- ---- what the calls change

-- the disk with this under the name
abbrev pub set : Disk → FileName → Option FileState → Disk
set d file state = λ other. if same_name file other then state else d other

-- an empty file that was never synced
abbrev pub new_file : FileState
new_file = record { kept = []; pending = []; synced = false; removed = false }

-- the file that an append adds to: one that is absent or removed begins anew
abbrev pub append_target : Option FileState → FileState
append_target None = new_file
append_target (Some f) = if f.removed then new_file else f

abbrev pub grow : FileState → List ℕ → FileState
grow f bytes = record f { pending = f.pending ++ bytes }

abbrev pub append : Disk → FileName → List ℕ → Disk
append d file bytes = set d file (Some (grow (append_target (d file)) bytes))

-- a file all of whose bytes are kept
abbrev pub whole : List ℕ → FileState
whole bytes = record { kept = bytes; pending = []; synced = true; removed = false }

-- what a sync makes of a file: one that is removed stays as it is
abbrev pub keep : FileState → FileState
keep f = if f.removed then f else whole (f.kept ++ f.pending)

abbrev pub sync : Disk → FileName → Disk
sync d file = set d file (option_map keep (d file))

-- the file is marked, and keeps its bytes
abbrev pub mark_removed : FileState → FileState
mark_removed f = record f { removed = true }

abbrev pub remove : Disk → FileName → Disk
remove d file = set d file (option_map mark_removed (d file))

-- ---- what the calls read

-- a file's bytes as the calls show them, None where it is absent or removed
abbrev pub file_content : Option FileState → Option (List ℕ)
file_content None = None
file_content (Some f) = if f.removed then None else Some (f.kept ++ f.pending)

-- the disk as it reads
abbrev pub contents : Disk → FileName → Option (List ℕ)
contents d file = file_content (d file)

abbrev pub content : Disk → FileName → List ℕ
content d file = unwrap_or (contents d file) []

abbrev pub IsListed : Disk → FileName → Type 0
IsListed d file = IsTrue (is_some (contents d file))

-- the names of the files that are there, each before those that follow it
pub record IsListing (d : Disk) (names : List FileName) : Type 0 where
  pub listed : (file : FileName) → Contains names file ↔ IsListed d file
  pub rising : IsStrictlySortedBy name_cmp names

-- so many bytes from a place on, as many as there are and the buffer takes, are at the buffer's front
pub record IsRead (bytes : List ℕ) (place count : ℕ) (old new : List ℕ) : Type 0 where
  pub as_many : count ≡ min (length old) (length bytes - place)
  pub buffer : new ≡ take count (drop place bytes) ++ drop count old
