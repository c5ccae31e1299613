-- Once all listed files are synced, each image reads as the disk does.
use Rattle.std.proofs.Common.{◌≡◌, ℕ, List, [], ◌∷◌, Option, refl, sym, subst, ◌∙◌, is_some, IsTrue}
use Rattle.qq_base.specs.declared.ids.QueueId.{QueueId}
use Rattle.qq_disk.specs.declared.name.FileName.{FileName}
use Rattle.qq_disk.specs.Name.{same_name}
use Rattle.qq_disk.specs.Disk.{Disk, sync, contents, IsListing}
use Rattle.qq_disk.specs.Image.{log_of}
use Rattle.qq_wal_chain.specs.Format.{IsFormat}
use Rattle.qq_wal_chain.specs.Image.{Files, files_of, shown_logs}
use Rattle.qq_wal_chain.specs.Laws.{IsSettledDisk}
use Rattle.qq_wal_chain.specs.Promise.{sync_all}
use Rattle.qq_wal_chain.specs.Wal.{wal}
use Rattle.qq_wal_chain.proofs.Calls.{ignores-sync}
use Rattle.qq_wal_chain.proofs.Images.{shown-image}
use Rattle.qq_wal_chain.proofs.Settling.{all-settled, shown-sync-by}
use Rattle.qq_wal.specs.Running.{top}
use Rattle.qq_recover.specs.Recovery.{MayRecover}

module _ (queues : List QueueId) (laws : IsFormat (wal queues)) where
  may-sync : (d : Disk) (file : FileName) → MayRecover queues d → MayRecover queues (sync d file)
  may-sync d file may = ignores-sync (wal queues) laws top d file may

  pub may-sync_all : (names : List FileName) (d : Disk) → MayRecover queues d → MayRecover queues (sync_all d names)
  may-sync_all [] d may = may
  may-sync_all (name ∷ names) d may = may-sync_all names (sync d name) (may-sync d name may)

  pub may-settle : (names : List FileName) (d : Disk) → IsListing d names → MayRecover queues d
      → IsSettledDisk queues top (sync_all d names)
  may-settle names d listing may L image =
      let files : Files = files_of (sync_all d names) in
      may-sync_all names d may L (shown_logs files) image (shown-image (wal queues) laws files)
      (λ n here. all-settled (wal queues) laws d names listing n here (L n) (shown_logs files n) (image n)
      (shown-image (wal queues) laws files n))

-- ---- syncs change nothing that is listed

pub contents-sync_all : (names : List FileName) (d : Disk) (file : FileName)
    → contents (sync_all d names) file ≡ contents d file
contents-sync_all [] d file = refl
contents-sync_all (name ∷ names) d file =
    contents-sync_all names (sync d name) file ∙ shown-sync-by d name file (same_name name file) refl

pub still-listing : (d : Disk) (names others : List FileName) → IsListing d names
    → IsListing (sync_all d others) names
still-listing d names others listing = record {
  listed = λ file.
      let same = contents-sync_all others d file in (
        λ here. subst (λ (o : Option (List ℕ)). IsTrue (is_some o)) (sym same) ((listing.listed file).0 here),
        λ here. (listing.listed file).1 (subst (λ (o : Option (List ℕ)). IsTrue (is_some o)) same here),
      );
  rising = listing.rising;
}
