-- What a log keeps from call to call.
use Rattle.std.specs.Prelude.{◌++◌, ◌≡◌, ◌≤◌, ◌<◌, ◌+◌, ◌-◌, nat_le, ℕ, Bool, false, List, [], map, length, take, drop, Some, None, Result, Ok, Err, IsTrue}
use Rattle.std.specs.List.{AllByRecursion, fold}
use Rattle.std.specs.Global.{Vec}
use Rattle.qq_base.specs.declared.ids.QueueId.{QueueId}
use Rattle.qq_disk.specs.declared.name.FileKind.TheVariants.{Log}
use Rattle.qq_disk.specs.declared.name.FileName.{FileName}
use Rattle.qq_disk.specs.Disk.{Disk, now, content, file_content}
use Rattle.qq_disk.specs.Facts.{DiskFacts}
use Rattle.qq_disk.specs.Image.{log_of}
use Rattle.qq_log.specs.Carries.{Carries}
use Rattle.qq_log.specs.declared.lane.Carry.{Carry}
use Rattle.qq_log.specs.declared.op.Op.{Op}
use Rattle.qq_wal_record.specs.declared.header.Header.{Header}
use Rattle.qq_wal_record.specs.declared.record.LogRecord.{LogRecord}
use Rattle.qq_wal_record.specs.declared.record.LogRecord.TheVariants.{Carry as CarryRecord}
use Rattle.qq_wal_record.specs.Encoding.{header_encoding}
use Rattle.qq_wal_chain.specs.Image.{files_of}
use Rattle.qq_wal_chain.specs.Lanes.{Lanes}
use Rattle.qq_wal_chain.specs.Laws.{op_records}
use Rattle.qq_wal.specs.Batch.{AllFitBatch, IsBatch, encodings}
use Rattle.qq_wal.specs.Marks.{AllFollow, HasCarry, Agree, known, queues_in, carries_in, add_records}
use Rattle.qq_wal.specs.Notices.{AreCounted, AreNamed, note_record, new_mark}
use Rattle.qq_wal.specs.Numbers.{first_numbers, raise}
use Rattle.qq_wal.specs.Ranges.{AllRanges, begin_files, ranges_in, write_record}
use Rattle.qq_wal.specs.Running.{IsWrittenTo, IsSynced, StaysGiving, lanes_kept, lanes_shown, op_in}
use Rattle.qq_wal.specs.declared.fault.WalFault.{WalFault}
use Rattle.qq_wal.specs.declared.marks.Mark.{Mark}
use Rattle.qq_wal.specs.declared.numbers.Numbers.{Numbers}
use Rattle.qq_wal.specs.declared.wal.Wal.{Wal}

-- The disk is as the log knows it: the log is written to the file of its header, of so many bytes; what is on the
-- disk comes to lanes of which the marks have the carries; and no log file has a number above those known.
pub record IsOnDisk (queues : List QueueId) (header : Header) (marks : List Mark) (size : ℕ) (numbers : Numbers)
    (d : Disk) : Type 0 where
  pub log : IsWrittenTo queues header d
  pub lanes : Lanes
  pub shown : lanes_shown queues d ≡ Some lanes
  pub agree : Agree lanes marks
  pub size_is : size ≡ length (content d (log_of header.file))
  pub free : (n : ℕ) → numbers.log < n → file_content (files_of d n) ≡ None

-- What counts as synced of each queue is kept: each number is at most that of the last op that the kept part of the log
-- has of its queue.
pub record IsKept (queues : List QueueId) (header : Header) (marks : List Mark) (d : Disk) : Type 0 where
  pub lanes : Lanes
  pub is : lanes_kept queues header d ≡ Some lanes
  pub each : AllByRecursion (λ (m : Mark). m.synced ≤ op_in lanes m.queue) marks

-- Each record that waits may be written, behind those before it. Where the disk tells its contents and no call has
-- failed, the disk is as the log knows it, and where nothing was appended since the last sync, nothing waits for one.
pub record IsSound {D : Type 0} (facts : DiskFacts D) (w : Wal D) : Type 0 where
  pub waiting : AllFitBatch w.waiting.items
  pub follow : AllFollow w.queues.items (known w.marks) w.waiting.items
  pub queues_are : queues_in w.marks ≡ w.queues.items
  pub carries : AllByRecursion HasCarry w.marks
  pub number : w.header.file ≤ w.numbers.log
  pub counted : AreCounted w.marks
  pub named : AreNamed w.marks
  pub on_disk : IsTrue (facts.tells w.disk) → w.stopped ≡ false
      → IsOnDisk w.queues.items w.header w.marks w.size w.numbers (now (facts.past w.disk))
  pub synced : IsTrue (facts.tells w.disk) → w.stopped ≡ false → w.dirty ≡ false
      → IsSynced w.queues.items w.header (now (facts.past w.disk))
  pub kept : IsTrue (facts.tells w.disk) → w.stopped ≡ false
      → IsKept w.queues.items w.header w.marks (now (facts.past w.disk))

-- what each queue has once all that waits is appended
abbrev pub carries_ahead : {D : Type 0} → Wal D → Carries
carries_ahead w = add_records (known w.marks) w.waiting.items

-- so much came behind the bytes with which the file was begun that it is full
abbrev pub is_full : {D : Type 0} → Wal D → Bool
is_full w = nat_le w.log_bytes (w.size - w.first)

-- the log is of the same queues, in the same file
pub record SameFile {D : Type 0} (old new : Wal D) : Type 0 where
  pub queues : new.queues ≡ old.queues
  pub header : new.header ≡ old.header
  pub numbers : new.numbers ≡ old.numbers
  pub log_bytes : new.log_bytes ≡ old.log_bytes
  pub first : new.first ≡ old.first

-- the first of what waits is appended
pub record Appends {D : Type 0} (count : ℕ) (old new : Wal D) : Type 0 where
  pub batch : IsBatch old.header.file count old.waiting.items
  pub waiting : new.waiting.items ≡ drop count old.waiting.items
  pub marks : new.marks ≡ fold note_record old.marks (take count old.waiting.items)
  pub ranges : ranges_in new.ranges ≡ fold write_record (ranges_in old.ranges) (take count old.waiting.items)
  pub size : new.size ≡ old.size + length (encodings old.header.file (take count old.waiting.items))
  pub going : new.stopped ≡ false

-- at each moment the promise is kept, with some of what waits, from the first on, among the given ops
pub record StaysAppending (queues : List QueueId) (waiting : List LogRecord) (old new : List Disk) : Type 0 where
  pub count : ℕ
  pub stays : (batch : List Op) → op_records batch ≡ take count waiting → StaysGiving queues batch old new

-- the length of a new file: its header, and the carries of the queues that have one
abbrev pub first_length : Header → List Mark → ℕ
first_length h marks = length (header_encoding h ++ encodings h.file (map CarryRecord (carries_in marks)))

-- a log that was begun: nothing waits, of each queue is known what its carry says, and its entries lie where they lay
pub record IsBegun {D : Type 0} (queues : Vec QueueId) (header : Header) (carries : List Carry) (names : List FileName)
    (ranges : AllRanges) (log_bytes : ℕ) (w : Wal D) : Type 0 where
  pub queues_are : w.queues ≡ queues
  pub header_is : w.header ≡ header
  pub waiting : w.waiting.items ≡ []
  pub marks : w.marks ≡ map (new_mark carries) queues.items
  pub ranges_are : ranges_in w.ranges ≡ begin_files header.file queues.items ranges
  pub size : w.size ≡ first_length header w.marks
  pub first : w.first ≡ w.size
  pub numbers : w.numbers ≡ first_numbers header names
  pub limit : w.log_bytes ≡ log_bytes
  pub clean : w.dirty ≡ false
  pub going : w.stopped ≡ false

-- the log goes on in a new file, which names the old one with its length
pub record IsRolled {D : Type 0} (old new : Wal D) : Type 0 where
  pub header : new.header ≡ record { file = old.numbers.log + 1; previous = old.header.file; good = old.size }
  pub size : new.size ≡ first_length new.header new.marks
  pub first : new.first ≡ new.size
  pub numbers : new.numbers ≡ raise Log old.numbers
  pub log_bytes : new.log_bytes ≡ old.log_bytes
  pub waiting : new.waiting ≡ old.waiting
  pub marks : new.marks ≡ old.marks
  pub ranges : ranges_in new.ranges ≡ begin_files new.header.file old.queues.items (ranges_in old.ranges)
  pub dirty : new.dirty ≡ old.dirty
  pub stopped : new.stopped ≡ false

-- the disk, in the log or handed back
abbrev pub disk_of : {D : Type 0} → Result (Wal D) (WalFault × D) → D
disk_of (Ok w) = w.disk
disk_of (Err e) = e.1
