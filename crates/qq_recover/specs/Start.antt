-- What a new file begins with.
use Rattle.std.specs.Prelude.{◌≡◌, ◌+◌, ◌≤◌, List, All, Ok}
use Rattle.qq_base.specs.declared.ids.QueueId.{QueueId}
use Rattle.qq_base.specs.declared.memory.TheConstants.{NUMBER_END}
use Rattle.qq_disk.specs.declared.name.FileKind.TheVariants.{Log as OfLog}
use Rattle.qq_disk.specs.Disk.{Disk, IsListing}
use Rattle.qq_wal_chain.specs.Promise.{sync_all}
use Rattle.qq_wal.specs.Marks.{IsCarry, carries_of}
use Rattle.qq_wal.specs.Numbers.{greatest_number}
use Rattle.qq_wal.specs.Ranges.{ranges_in}
use Rattle.qq_wal.specs.Running.{numbers_read}
use Rattle.qq_recover.specs.declared.start.Start.{Start}
use Rattle.qq_recover.specs.Clearing.{numbers_of_ends}
use Rattle.qq_recover.specs.Entries.{ranges_read}
use Rattle.qq_recover.specs.Log.{IsNewest}
use Rattle.qq_recover.specs.Reading.{shown, lanes_read}
use Rattle.qq_recover.specs.Table.{lanes_of}

-- the file's number is the next, and there is a carry of each queue that has a lane
pub record IsStart (queues : List QueueId) (s : Start) : Type 0 where
  pub number : s.header.file ≡ greatest_number OfLog s.names.items + 1
  pub within : s.header.file ≤ NUMBER_END
  pub carries_are : s.carries.items ≡ carries_of queues (lanes_of s.table)
  pub carries : All IsCarry s.carries.items

-- it was read of a disk, of which then all that it lists was synced
pub record IsReadOf (queues : List QueueId) (old new : Disk) (s : Start) : Type 0 where
  pub listing : IsListing old s.names.items
  pub synced : new ≡ sync_all old s.names.items
  pub lanes : lanes_read queues (shown old) ≡ Ok (lanes_of s.table)
  pub ranges : ranges_read queues (shown old) ≡ Ok (ranges_in s.ranges)
  pub newest : IsNewest queues (shown old) s.header.previous s.header.good
  pub chain : numbers_read queues old ≡ numbers_of_ends s.chain.items
