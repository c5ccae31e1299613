-- What is read once all that a disk lists is synced.
use Rattle.std.proofs.Common.{◌≡◌, List, Ok, sym, ap, subst, ◌∙◌}
use Rattle.qq_base.specs.declared.ids.QueueId.{QueueId}
use Rattle.qq_disk.specs.declared.name.FileName.{FileName}
use Rattle.qq_disk.specs.Disk.{Disk, IsListing, now}
use Rattle.qq_wal_chain.specs.Chain.{Logs, reading}
use Rattle.qq_wal_chain.specs.Wal.{wal}
use Rattle.qq_wal_chain.specs.Promise.{sync_all}
use Rattle.qq_wal_chain.proofs.Settling.{shown-sync_all}
use Rattle.qq_wal.specs.Running.{MayRecover, Stays, StillMayRecover, numbers_in, numbers_read, top}
use Rattle.qq_recover.specs.Clearing.{numbers_of_ends}
use Rattle.qq_recover.specs.declared.log.Log.{Log}
use Rattle.qq_recover.specs.declared.start.Start.{Start}
use Rattle.qq_recover.specs.declared.table.Table.{Table}
use Rattle.qq_wal.specs.declared.ranges.FileRanges.{FileRanges}
use Rattle.qq_wal.specs.Ranges.{ranges_in}
use Rattle.qq_recover.specs.Entries.{ranges_read}
use Rattle.qq_recover.specs.Log.{IsNewest}
use Rattle.qq_recover.specs.Reading.{lanes_read, shown}
use Rattle.qq_recover.specs.Start.{IsReadOf}
use Rattle.qq_recover.specs.Table.{lanes_of}
use Rattle.qq_recover.proofs.Settled.{still-listing}

-- what was promised stays so, since only the syncs change the disk
pub prepared-stays : (queues : List QueueId) (old named settled new : List Disk) → named ≡ old
    → Stays queues named settled → new ≡ settled → Stays queues old new
prepared-stays queues old named settled new same stays still =
    subst (λ (p : List Disk). Stays queues old p) (sym still)
    (subst (λ (p : List Disk). Stays queues p settled) same stays)

-- what could be recovered can be, likewise
pub may-through : (queues : List QueueId) (old named settled new : List Disk) → named ≡ old
    → StillMayRecover queues named settled → new ≡ settled → StillMayRecover queues old new
may-through queues old named settled new same stays still may =
    subst (λ (p : List Disk). MayRecover queues (now p)) (sym still)
    (stays (subst (λ (p : List Disk). MayRecover queues (now p)) (sym same) may))

-- the moments before the names are asked for, behind that, and once all are synced
module _ (queues : List QueueId) (old named settled : List Disk) (names : List FileName) (same : named ≡ old)
    (listing : IsListing (now old) names) (synced : now settled ≡ sync_all (now named) names) where
  pub all-synced : now settled ≡ sync_all (now old) names
  all-synced = synced ∙ ap (λ (p : List Disk). sync_all (now p) names) same

  pub still-listed : IsListing (now settled) names
  still-listed =
      subst (λ (d : Disk). IsListing d names) (sym all-synced) (still-listing (now old) names names listing)

  pub still-shown : shown (now settled) ≡ shown (now old)
  still-shown = ap shown all-synced ∙ shown-sync_all names (now old)

  pub read-of : (new : List Disk) (log : Log) (s : Start) → new ≡ settled
      → lanes_read queues (shown (now settled)) ≡ Ok (lanes_of log.table)
      → IsNewest queues (shown (now settled)) log.file log.good
      → ranges_read queues (shown (now settled)) ≡ Ok (ranges_in log.ranges)
      → numbers_read queues (now settled) ≡ numbers_of_ends log.chain.items → s.ranges ≡ log.ranges
      → s.table ≡ log.table → s.names.items ≡ names → s.header.previous ≡ log.file → s.header.good ≡ log.good
      → s.chain.items ≡ log.chain.items
      → IsReadOf queues (now old) (now new) s
  read-of new log s still lanes newest ranges chain same_ranges table named_so previous good same_chain = record {
    listing = subst (λ (l : List FileName). IsListing (now old) l) (sym named_so) listing;
    synced = ap now still ∙ all-synced ∙ ap (λ (l : List FileName). sync_all (now old) l) (sym named_so);
    lanes = ap (λ (logs : Logs). lanes_read queues logs) (sym still-shown) ∙ lanes
        ∙ ap (λ (t : Table). Ok (lanes_of t)) (sym table);
    ranges = ap (λ (logs : Logs). ranges_read queues logs) (sym still-shown) ∙ ranges
        ∙ ap (λ (all : FileRanges). Ok (ranges_in all)) (sym same_ranges);
    newest =
        let here = subst (λ (logs : Logs). IsNewest queues logs log.file log.good) still-shown newest in
        record { file_is = previous ∙ here.file_is; good_is = good ∙ here.good_is };
    chain = ap (λ (logs : Logs). numbers_in queues ((reading (wal queues) top logs).found)) (sym still-shown) ∙ chain
        ∙ ap numbers_of_ends (sym same_chain);
  }
