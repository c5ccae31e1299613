-- What batches, one after the other, make of a log of some queues.
use Rattle.std.specs.Prelude.{◌≡◌, ◌<◌, ◌+◌, ◌-◌, ◌^◌, ℕ, Bool, true, false, List, [], length, drop, take, IsTrue}
use Rattle.qq_base.specs.Causes.{Rose}
use Rattle.qq_base.specs.declared.ids.QueueId.{QueueId}
use Rattle.qq_base.specs.declared.memory.Memory.{Memory}
use Rattle.qq_base.specs.declared.memory.Memory.TheVariants.{Want, Spent}
use Rattle.qq_disk.specs.Disk.{Disk, content, now}
use Rattle.qq_disk.specs.Facts.{DiskFacts}
use Rattle.qq_disk.specs.Image.{log_of}
use Rattle.qq_disk.specs.Moments.{Adds}
use Rattle.qq_log.specs.declared.op.Op.{Op}
use Rattle.qq_lots.specs.Kept.{IsTied, KeepsPromised}
use Rattle.qq_lots.specs.Lots.{Lot, Parts, give_batch, ids_of}
use Rattle.qq_wal.specs.Batch.{encodings}
use Rattle.qq_wal.specs.declared.batch.TheConstants.{BATCH_BYTES}
use Rattle.qq_wal.specs.declared.fault.WalFault.{WalFault}
use Rattle.qq_wal.specs.declared.fault.WalFault.TheVariants.{Disk as DiskFailed, Stopped, TooLarge, Memory as OfMemory}
use Rattle.qq_wal.specs.declared.wal.Wal.{Wal}
use Rattle.qq_wal.specs.Running.{StaysGiving, HoldsAlso}
use Rattle.qq_wal_chain.specs.Laws.{op_records}
use Rattle.qq_wal_record.specs.declared.record.LogRecord.{LogRecord}
use Rattle.qq_node_log.specs.declared.node_log.NodeLog.{NodeLog}
use Rattle.qq_node_log.specs.declared.node_log.NodeLog.TheVariants.{Open, Closed}

-- ---- one batch

-- so many of the records that wait are appended: at each moment their ops are among the given ones, and then on the disk
abbrev pub AppendsFirst : List QueueId → ℕ → List LogRecord → List Disk → List Disk → Type 0
AppendsFirst queues count waiting old new =
    (batch : List Op) → op_records batch ≡ take count waiting
    → StaysGiving queues batch old new × HoldsAlso queues batch (now old) (now new)

-- nothing waited, or a batch of what waits was appended
abbrev pub IsBatchOf : Bool → List LogRecord → ℕ → Type 0
IsBatchOf true waiting count = length (drop count waiting) < length waiting
IsBatchOf false waiting count = waiting ≡ []

pub record AppendsSome {D : Type 0} (facts : DiskFacts D) (more : Bool) (old new : Wal D) : Type 0
  where
    pub count : ℕ
    pub batch : IsBatchOf more old.waiting.items count
    pub waiting : new.waiting.items ≡ drop count old.waiting.items
    pub size : new.size ≡ old.size + length (encodings old.header.file (take count old.waiting.items))
    pub file : new.header.file ≡ old.header.file
    pub appended : IsTrue (facts.tells old.disk)
        → AppendsFirst old.queues.items count old.waiting.items (facts.past old.disk) (facts.past new.disk)
    pub going : new.stopped ≡ false

-- ---- all of them

-- of whatever parts the disk held, at each moment it keeps what was promised of them with these ops
abbrev pub StaysGiven : List QueueId → List Op → List Disk → List Disk → Type 0
StaysGiven queues ops old new =
    (lot : Lot) (parts : Parts) → queues ≡ ids_of lot → IsTied lot parts (now old)
    → Adds (KeepsPromised lot (give_batch lot ops parts)) old new

-- and then holds them with these ops
abbrev pub HoldsGiven : List QueueId → List Op → List Disk → List Disk → Type 0
HoldsGiven queues ops old new =
    (lot : Lot) (parts : Parts) → queues ≡ ids_of lot → IsTied lot parts (now old)
    → IsTied lot (give_batch lot ops parts) (now new)

-- of the ops that wait
abbrev pub StaysWriting : List QueueId → List LogRecord → List Disk → List Disk → Type 0
StaysWriting queues waiting old new = (ops : List Op) → op_records ops ≡ waiting → StaysGiven queues ops old new

abbrev pub HoldsWritten : List QueueId → List LogRecord → List Disk → List Disk → Type 0
HoldsWritten queues waiting old new = (ops : List Op) → op_records ops ≡ waiting → HoldsGiven queues ops old new

-- all that waited is appended, and the log goes on
pub record HasWritten {D : Type 0} (facts : DiskFacts D) (old new : Wal D) : Type 0 where
  pub waiting : new.waiting.items ≡ []
  pub going : new.stopped ≡ false
  pub holds : IsTrue (facts.tells old.disk)
      → HoldsWritten old.queues.items old.waiting.items (facts.past old.disk) (facts.past new.disk)

-- ---- why it gave up

-- With the first of these records behind it a file would have so many bytes, and one batch more could make it longer than
-- a number of 64 bits tells.
pub record IsLongWith (number size file : ℕ) (records : List LogRecord) : Type 0 where
  pub count : ℕ
  pub is : number ≡ size + length (encodings file (take count records))
  pub long : 2 ^ 64 - 1 < number + BATCH_BYTES

-- the log's file has, with the first of these records
abbrev pub IsLong : {D : Type 0} → Wal D → List LogRecord → Memory → Type 0
IsLong wal records Want = Unit {0}
IsLong wal records (Spent number) = IsLongWith number wal.size wal.header.file records

abbrev pub IsLongIn : {D : Type 0} → NodeLog D → List Op → Memory → Type 0
IsLongIn (Open wal) ops memory = IsLong wal (op_records ops) memory
IsLongIn (Closed disk) ops memory = ⊥

-- a log file of the disk has, with the first of these ops
pub record HasLongLog (number : ℕ) (ops : List Op) (d : Disk) : Type 0 where
  pub file : ℕ
  pub with_ops : IsLongWith number (length (content d (log_of file))) file (op_records ops)

-- it is what the disk holds
abbrev pub IsLongOn : Memory → List Op → Disk → Type 0
IsLongOn Want ops d = Unit {0}
IsLongOn (Spent number) ops d = HasLongLog number ops d

-- the disk's count rose, or there was no memory, or the file is too long with some of what waits
abbrev pub IsWriteCaused : {D : Type 0} → (D → ℕ) → Wal D → Wal D → WalFault → Type 0
IsWriteCaused faults old new DiskFailed = Rose (faults old.disk) (faults new.disk)
IsWriteCaused faults old new Stopped = ⊥
IsWriteCaused faults old new TooLarge = ⊥
IsWriteCaused faults old new (OfMemory memory) = IsLong old old.waiting.items memory
