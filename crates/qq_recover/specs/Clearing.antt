-- Which files recovery removes.
use Rattle.std.specs.Prelude.{◌≡◌, ◌≢◌, ◌≤◌, ◌⊎◌, ℕ, Bool, true, false, not, List, [], ◌∷◌, map, nat_eq, ◌&&◌, if◌then◌else◌, option_map, Contains, IsTrue}
use Rattle.std.specs.List.{list_any}
use Rattle.qq_base.specs.declared.ids.QueueId.{QueueId}
use Rattle.qq_disk.specs.declared.name.FileName.{FileName}
use Rattle.qq_disk.specs.Disk.{Disk, keep, mark_removed, now, remove}
use Rattle.qq_disk.specs.Facts.{DiskFacts}
use Rattle.qq_disk.specs.Image.{log_of}
use Rattle.qq_disk.specs.Moments.{Adds}
use Rattle.qq_disk.specs.Name.{rank}
use Rattle.qq_wal.specs.declared.wal.Wal.{Wal}
use Rattle.qq_wal.specs.Running.{IsOutside, Stays, StaysBeside, StillMayRecover}
use Rattle.qq_wal.specs.Wal.{IsSound}
use Rattle.qq_wal_record.specs.declared.header.Header.{Header}
use Rattle.qq_recover.specs.Ends.{End}

-- ---- the files

abbrev pub numbers_of_ends : List End → List ℕ
numbers_of_ends chain = map (λ (end : End). end.number) chain

abbrev pub has_end : List End → ℕ → Bool
has_end chain number = list_any (λ (end : End). nat_eq number end.number) chain

-- a log file that isn't one of the chain
abbrev pub is_unread : List End → FileName → Bool
is_unread chain file = nat_eq (rank file.kind) 0 && not (has_end chain file.number)

abbrev pub remove_one : List End → Disk → FileName → Disk
remove_one chain d file = if is_unread chain file then remove d file else d

-- the disk without those of these files that aren't of the chain
abbrev pub remove_unread : List End → Disk → List FileName → Disk
remove_unread chain d [] = d
remove_unread chain d (file ∷ files) = remove_unread chain (remove_one chain d file) files

-- ---- the log that goes on meanwhile

-- what isn't of the chain isn't read, the log's own file excepted
abbrev pub AreOutside : List QueueId → Header → List End → Disk → Type 0
AreOutside queues h chain d = (m : ℕ) → has_end chain m ≡ false → m ≢ h.file → IsOutside queues h d m

-- of each file the disk holds the same, or it is one of these and not of the chain, and was removed
abbrev pub LacksOf : List FileName → List End → Disk → Disk → Type 0
LacksOf names chain d e = (file : FileName)
    → (e file ≡ d file)
    ⊎ (Contains names file × (is_unread chain file ≡ true) × (e file ≡ option_map mark_removed (d file)))

-- such files were removed, and else the log is as it was
pub record Clears {D : Type 0} (facts : DiskFacts D) (names : List FileName) (chain : List End)
    (old new : Wal D) : Type 0 where
  pub sound : IsSound facts new
  pub same : new ≡ record old { disk = new.disk; stopped = new.stopped }
  pub told : facts.tells new.disk ≡ facts.tells old.disk
  pub later : facts.faults old.disk ≤ facts.faults new.disk
  pub outside : IsTrue (facts.tells old.disk) → AreOutside old.queues.items old.header chain (now (facts.past old.disk))
      → AreOutside old.queues.items old.header chain (now (facts.past new.disk))
  pub stays : IsTrue (facts.tells old.disk) → Stays old.queues.items (facts.past old.disk) (facts.past new.disk)
  pub may : IsTrue (facts.tells old.disk) → StillMayRecover old.queues.items (facts.past old.disk) (facts.past new.disk)
  pub each : IsTrue (facts.tells old.disk) → Adds (LacksOf names chain (now (facts.past old.disk)))
      (facts.past old.disk) (facts.past new.disk)

-- a file was begun, then it was synced, and then such files were removed
pub record BeginsAndClears (names : List FileName) (chain : List End) (file : FileName) (old new : List Disk) : Type 0
  where
    pub begun : List Disk
    pub beside : StaysBeside file old begun
    pub synced : now begun file ≡ option_map keep (now begun file)
    pub each : Adds (LacksOf names chain (now begun)) begun new
