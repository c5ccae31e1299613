-- A sync, and then a new file.
use Rattle.std.proofs.Common.{◌≡◌, Bool, List, sym, ap, ◌∙◌, subst}
use Rattle.std.specs.Global.{Vec}
use Rattle.std.specs.Prelude.{IsTrue}
use Rattle.qq_base.specs.declared.ids.QueueId.{QueueId}
use Rattle.qq_disk.specs.Disk.{Disk, now}
use Rattle.qq_disk.specs.Facts.{DiskFacts}
use Rattle.qq_disk.specs.Moments.{Adds}
use Rattle.qq_disk.proofs.Moments.{adds-now, adds-then}
use Rattle.qq_lots.specs.Kept.{IsTied}
use Rattle.qq_lots.specs.Lots.{Lot, Parts, ids_of, keep_all}
use Rattle.qq_lots.proofs.Writes.{rolled-tied, stays-keeps, synced-tied, tied-promised}
use Rattle.qq_wal.specs.declared.wal.Wal.{Wal}
use Rattle.qq_wal.specs.Running.{top, Stays, StillHolds}
use Rattle.qq_wal_chain.specs.Promise.{Promises}
use Rattle.qq_wal_chain.specs.Wal.{wal}
use Rattle.qq_node_log.specs.declared.node_log.NodeLog.TheVariants.{Open}
use Rattle.qq_node_log.specs.declared.syncing.SyncOutcome.{SyncOutcome}
use Rattle.qq_node_log.specs.declared.syncing.SyncOutcome.TheVariants.{Whole, NoFile, Nothing}
use Rattle.qq_node_log.specs.Ends.{CarriesAre}
use Rattle.qq_node_log.specs.Log.{SameLog}
use Rattle.qq_node_log.specs.Steps.{CallKeeps, RunsOn}
use Rattle.qq_node_log.specs.Syncing.{Comes, GoesOnAs, IsSynced, IsSyncedBetween, SyncsIn}

-- what was promised is promised in one part of a call, and then in another
pub stays-then : (queues : List QueueId) (old mid new : List Disk) → Stays queues old mid → Stays queues mid new
    → Stays queues old new
stays-then queues old mid new first second noticed given keeps =
    let P : Disk → Type 0 = λ d. Promises (wal queues) top noticed given d in
    let early : Adds P old mid = first noticed given keeps in
    adds-then P old mid new early (second noticed given (adds-now P old mid early keeps))

-- ---- how far it came

synced-mid : (queues : List QueueId) (old mid : List Disk) → IsSynced queues old mid → (lot : Lot) (parts : Parts)
    → queues ≡ ids_of lot → IsTied lot parts (now old) → IsTied lot (keep_all parts) (now mid)
synced-mid queues old mid synced lot parts same tied =
    let s : IsSynced (ids_of lot) old mid = subst (λ (ids : List QueueId). IsSynced ids old mid) same synced in
    synced-tied lot parts (now old) (now mid) tied s.noticed s.holds

between : (queues : List QueueId) (old mid new : List Disk) → IsSynced queues old mid → Stays queues mid new
    → (lot : Lot) (parts : Parts) → queues ≡ ids_of lot → IsTied lot parts (now old) → IsSyncedBetween lot parts old new
between queues old mid new synced stays lot parts same tied =
    let later : IsTied lot (keep_all parts) (now mid) = synced-mid queues old mid synced lot parts same tied in
    record {
      mid = mid;
      stays = (stays-keeps lot parts old mid (tied-promised lot parts (now old) tied)
          (subst (λ (ids : List QueueId). Stays ids old mid) same synced.stays)).0;
      tied = later;
      later = (stays-keeps lot (keep_all parts) mid new (tied-promised lot (keep_all parts) (now mid) later)
          (subst (λ (ids : List QueueId). Stays ids mid new) same stays)).0;
    }

-- all is synced, and the log goes on
pub comes-whole : (queues : List QueueId) (old mid new : List Disk) → IsSynced queues old mid → Stays queues mid new
    → StillHolds queues (now mid) (now new) → Comes Whole queues old new
comes-whole queues old mid new synced stays holds lot parts same tied = (
  between queues old mid new synced stays lot parts same tied,
  rolled-tied lot (keep_all parts) mid new (synced-mid queues old mid synced lot parts same tied)
      (subst (λ (ids : List QueueId). Stays ids mid new) same stays)
      (subst (λ (ids : List QueueId). StillHolds ids (now mid) (now new)) same holds),
)

-- or the disk fails where a new file is begun
pub comes-no_file : (queues : List QueueId) (old mid new : List Disk) → IsSynced queues old mid → Stays queues mid new
    → Comes NoFile queues old new
comes-no_file queues old mid new synced stays lot parts same tied =
    between queues old mid new synced stays lot parts same tied

-- or in the sync
pub comes-nothing : (queues : List QueueId) (old new : List Disk) → Stays queues old new → Comes Nothing queues old new
comes-nothing queues old new stays lot parts same tied =
    (stays-keeps lot parts old new (tied-promised lot parts (now old) tied)
    (subst (λ (ids : List QueueId). Stays ids old new) same stays)).0

-- ---- what it leaves of the parts

module _ {D : Type 0} (facts : DiskFacts D) (old new : Wal D) (same : SameLog facts old new) where
  pub sync-keeps : (IsTrue (facts.tells old.disk) → Stays old.queues.items (facts.past old.disk) (facts.past new.disk))
      → CallKeeps facts (λ (lot : Lot) (parts : Parts). parts) (Open old) (Open new)
  sync-keeps stays lot parts run tell tied =
      stays-keeps lot parts (facts.past old.disk) (facts.past new.disk)
      (tied-promised lot parts (now (facts.past old.disk)) tied)
      (subst (λ (ids : List QueueId). Stays ids (facts.past old.disk) (facts.past new.disk))
      run.queues_are (stays tell))

  pub sync-comes : (outcome : SyncOutcome)
      → (IsTrue (facts.tells old.disk) → Comes outcome old.queues.items (facts.past old.disk) (facts.past new.disk))
      → SyncsIn facts outcome (Open old) (Open new)
  sync-comes outcome comes lot parts run tell tied = comes tell lot parts run.queues_are tied

  pub sync-runs : (full : Bool) → GoesOnAs full old new
      → (IsTrue (facts.tells old.disk) → Comes Whole old.queues.items (facts.past old.disk) (facts.past new.disk))
      → RunsOn facts (λ (lot : Lot). keep_all) (Open old) (Open new)
  sync-runs full goes comes = record {
    running = λ lot parts run. record {
      sound = same.sound;
      queues_are = ap (λ (q : Vec QueueId). q.items) same.queues ∙ run.queues_are;
      waiting = goes.waiting ∙ run.waiting;
      going = goes.going;
      newest = same.newest run.newest;
      carries = subst (CarriesAre lot parts) (sym same.ahead) run.carries;
    };
    tied = λ lot parts run tell tied. (comes tell lot parts run.queues_are tied).1;
  }
