-- What a yard of folders gives.
use Rattle.std.specs.Prelude.{◌≡◌, ℕ, Bool, List, ◌++◌, Option, Some, None, codes, decimal}
use Rattle.std.specs.List.{list_any}
use Rattle.std.specs.Str.{bytes_eq}
use Rattle.qq_base.specs.declared.ids.NodeId.{NodeId}
use Rattle.qq_disk.specs.declared.either_disk.EitherDisk.{EitherDisk}
use Rattle.qq_disk.specs.declared.either_disk.EitherDisk.TheVariants.{First, Second}
use Rattle.qq_disk.specs.declared.image.Image.{Image}
use Rattle.qq_dir_disk.specs.declared.faults.Faults.{Faults}
use Rattle.qq_dir_disk.specs.declared.folder.Folder.{Folder}
use Rattle.qq_dir_disk.specs.declared.root.LockedRoot.{LockedRoot}
use Rattle.qq_mem_disk.specs.declared.mem_disk.MemDisk.{MemDisk}
use Rattle.qq_mem_disk.specs.MemDisk.{past_of, counter_of}
use Rattle.qq_mem_disk.specs.Counter.{IsFresh}
use Rattle.qq_ports.specs.Yard.{IsFreshDisk, IsOpened, IsAfterCrash}

-- the root of this path is locked
abbrev pub has_root : {F : Type 0} → List ℕ → List (LockedRoot F) → Bool
has_root path roots = list_any (λ (root : LockedRoot _). bytes_eq root.path.bytes.items path) roots

-- the folder of a node under a root
abbrev pub node_folder : List ℕ → NodeId → List ℕ
node_folder root node = root ++ codes "/node-" ++ decimal node.0

-- without a root a new disk in memory, with one the disk of this folder
abbrev pub IsDiskOf : {D : Type 0} → (D → List ℕ) → Option (List ℕ) → NodeId → EitherDisk MemDisk D → Type 0
IsDiskOf folder_of None node (First disk) = IsFreshDisk disk
IsDiskOf folder_of (Some root) node (Second disk) = folder_of disk ≡ node_folder root node
IsDiskOf folder_of _ node _ = ⊥

-- a disk in memory was just opened
abbrev pub IsOpenedFirst : {D : Type 0} → EitherDisk MemDisk D → Type 0
IsOpenedFirst (First disk) = IsOpened (past_of disk)
IsOpenedFirst (Second disk) = Unit {0}

-- the same folder, with no fault so far, and stopped where it was
pub record IsReopened (old : Folder) (before : Faults) (new : Folder) (faults : Faults) : Type 0 where
  pub folder : new ≡ old
  pub faults_so_far : faults ≡ record { count = 0; stopped = before.stopped }

-- of a disk in memory the named image, of one in a folder the folder opened again
abbrev pub IsCrashed : {D : Type 0} → (D → D → Type 0) → Image → EitherDisk MemDisk D → EitherDisk MemDisk D → Type 0
IsCrashed Reopens image (First old) (First new) =
    IsAfterCrash image (past_of old) (past_of new) × IsFresh (counter_of new)
IsCrashed Reopens image (Second old) (Second new) = Reopens old new
IsCrashed Reopens image _ _ = ⊥
