-- A new file may go on behind what was read.
use Rattle.std.proofs.Common.{◌≡◌, ◌≤◌, ◌<◌, ℕ, true, List, Option, Some, None, refl, sym, ap, subst, ◌∙◌, arith, inl, inr, ◌⊎◌, is_some, IsTrue}
use Rattle.std.proofs.lemmas.Bool.{cases_lt}
use Rattle.qq_base.specs.declared.ids.QueueId.{QueueId}
use Rattle.qq_base.specs.declared.memory.TheConstants.{NUMBER_END}
use Rattle.qq_disk.specs.declared.name.FileKind.TheVariants.{Log as OfLog}
use Rattle.qq_disk.specs.declared.name.FileName.{FileName}
use Rattle.qq_disk.specs.Disk.{Disk, IsListed, IsListing}
use Rattle.qq_disk.specs.Image.{log_of}
use Rattle.qq_wal_chain.specs.Chain.{Logs, Found, Reading, has_header, newest, reading}
use Rattle.qq_wal_chain.specs.Format.{IsFormat}
use Rattle.qq_wal_chain.specs.Lanes.{Lanes}
use Rattle.qq_wal_chain.specs.Laws.{IsSettledDisk}
use Rattle.qq_wal_chain.specs.Promise.{found_world}
use Rattle.qq_wal_chain.specs.Wal.{wal}
use Rattle.qq_wal_chain.proofs.Settling.{shown-sync_all}
use Rattle.qq_wal_chain.proofs.Walk.{newest-has}
use Rattle.qq_wal.specs.Marks.{carries_of}
use Rattle.qq_wal.specs.Numbers.{greatest_number}
use Rattle.qq_wal.specs.Running.{MayBegin, lanes_shown, numbers_in, numbers_read, reading_of, top}
use Rattle.qq_wal.proofs.OnDisk.{above-listed}
use Rattle.qq_recover.specs.declared.start.Start.{Start}
use Rattle.qq_recover.specs.Answer.{answered}
use Rattle.qq_recover.specs.Clearing.{numbers_of_ends}
use Rattle.qq_recover.specs.Reading.{shown}
use Rattle.qq_recover.specs.Recovery.{MayRecover}
use Rattle.qq_recover.specs.Start.{IsReadOf, IsStart}
use Rattle.qq_recover.specs.Table.{lanes_of}
use Rattle.qq_recover.proofs.ChainLaws.{lanes-are}
use Rattle.qq_recover.proofs.Settled.{may-settle, still-listing}

-- what was found, where it comes to these lanes
record FoundAs (queues : List QueueId) (found : Option (Found (wal queues))) (lanes : Lanes) : Type 0 where
  before : Found (wal queues)
  is : found ≡ Some before
  world : before.world ≡ lanes

found-as : (queues : List QueueId) (found : Option (Found (wal queues))) (lanes : Lanes)
    → found_world (wal queues) found ≡ Some lanes → FoundAs queues found lanes
found-as queues None lanes e = absurd cc
found-as queues (Some found) lanes e = record { before = found; is = refl; world = cc }

-- a listed file's number isn't above the greatest
pub listed-within : (d : Disk) (names : List FileName) → IsListing d names → (n : ℕ) → IsListed d (log_of n)
    → n ≤ greatest_number OfLog names
listed-within d names listing n here = by (cases_lt (greatest_number OfLog names) n)
  where
    by : (greatest_number OfLog names < n) ⊎ (n ≤ greatest_number OfLog names) → n ≤ greatest_number OfLog names
    by (inl above) =
        absurd (cc (subst (λ (o : Option (List ℕ)). IsTrue (is_some o)) (above-listed d names listing n above) here))
    by (inr within) = within

-- the newest file is listed
pub newest-within-listed : (queues : List QueueId) (d : Disk) (names : List FileName) → IsListing d names
    → newest (wal queues) top (shown d) ≤ greatest_number OfLog names
newest-within-listed queues d names listing =
    by (newest (wal queues) top (shown d)) (newest-has (wal queues) top (shown d))
  where
    at : (n : ℕ) → (0 < n → has_header (wal queues) (shown d n) ≡ true)
        → (greatest_number OfLog names < n) ⊎ (n ≤ greatest_number OfLog names) → n ≤ greatest_number OfLog names
    at n has (inl above) =
        absurd (cc (sym (has (omega (arith, above)))
        ∙ ap (λ (o : Option (List ℕ)). has_header (wal queues) o) (above-listed d names listing n above)))
    at n has (inr within) = within

    by : (n : ℕ) → (0 < n → has_header (wal queues) (shown d n) ≡ true) → n ≤ greatest_number OfLog names
    by n has = at n has (cases_lt (greatest_number OfLog names) n)

module _ (queues : List QueueId) (laws : IsFormat (wal queues)) (old new : Disk) (s : Start)
    (start : IsStart queues s) (read : IsReadOf queues old new s) where
  abbrev names : List FileName
  names = s.names.items

  -- the disk shows what it showed before the syncs
  shows : shown new ≡ shown old
  shows = ap shown read.synced ∙ shown-sync_all names old

  same-reading : reading_of queues new ≡ reading (wal queues) top (shown old)
  same-reading = ap (λ (logs : Logs). reading (wal queues) top logs) shows

  -- and it comes to the lanes that were read
  pub shows-lanes : lanes_shown queues new ≡ Some (lanes_of s.table)
  shows-lanes =
      ap (λ (r : Reading (wal queues)). found_world (wal queues) r.found) same-reading
      ∙ sym (lanes-are queues laws (shown old))
      ∙ ap answered read.lanes

  pub may-begin : MayRecover queues old → MayBegin queues s.header s.carries.items names new
  may-begin may =
      let f = found-as queues (reading_of queues new).found (lanes_of s.table) shows-lanes in
      let below : (reading (wal queues) top (shown old)).file ≤ greatest_number OfLog names =
      newest-within-listed queues old names read.listing in
      record {
        listing = subst (λ (d : Disk). IsListing d names) (sym read.synced) (still-listing old names names read.listing);
        before = f.before;
        settled = subst (λ (d : Disk). IsSettledDisk queues top d) (sym read.synced)
            (may-settle queues laws names old read.listing may);
        found = f.is;
        newer = omega (
          arith,
          ap (λ (r : Reading (wal queues)). r.file) same-reading,
          below,
          start.number,
        );
        previous = read.newest.file_is ∙ sym (ap (λ (r : Reading (wal queues)). r.file) same-reading);
        good = read.newest.good_is ∙ sym (ap (λ (r : Reading (wal queues)). r.good) same-reading);
        carries_are = start.carries_are ∙ ap (carries_of queues) (sym f.world);
      }

  pub same-numbers : numbers_read queues new ≡ numbers_of_ends s.chain.items
  same-numbers = ap (λ (r : Reading (wal queues)). numbers_in queues r.found) same-reading ∙ read.chain

  -- where a listed file's number is at its end, there is no next one
  pub none-at-end : (number : ℕ) → NUMBER_END ≤ number → IsListed old (log_of number) → ⊥
  none-at-end number end here =
      absurd (omega (arith, listed-within old names read.listing number here, start.number, start.within, end))
