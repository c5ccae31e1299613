-- The promise of the log, in the words of a disk and of queues.
use Rattle.std.specs.Prelude.{◌≡◌, ℕ, List, ◌++◌, map, Option, Some}
use Rattle.std.specs.List.{AllByRecursion}
use Rattle.qq_base.specs.declared.ids.QueueId.{QueueId}
use Rattle.qq_disk.specs.Disk.{Disk, FileState}
use Rattle.qq_disk.specs.Crash.{Remains, IsImage}
use Rattle.qq_disk.specs.Image.{log_of}
use Rattle.qq_log.specs.declared.op.Op.{Op}
use Rattle.qq_wal_record.specs.declared.record.LogRecord.{LogRecord}
use Rattle.qq_wal_record.specs.declared.record.LogRecord.TheVariants.{Op as OpRecord}
use Rattle.qq_base.specs.Fronts.{IsFront}
use Rattle.qq_wal_chain.specs.Records.{encode_all, replay}
use Rattle.qq_wal_chain.specs.Chain.{reading}
use Rattle.qq_wal_chain.specs.Image.{IsHonest, files_of, logs_of, shown_logs}
use Rattle.qq_wal_chain.specs.Promise.{Promises, Holds, IsSteady, found_world}
use Rattle.qq_wal_chain.specs.Lanes.{Lanes, RecoversLanes}
use Rattle.qq_wal_chain.specs.Wal.{RecordFits, wal, WholeHeader, no_lanes, encode_header}

abbrev pub op_records : List Op → List LogRecord
op_records ops = map OpRecord ops

-- the bytes of a batch of ops in file n
abbrev pub batch_bytes : List QueueId → ℕ → List Op → List ℕ
batch_bytes queues n ops = encode_all (wal queues) n (op_records ops)

-- the first bytes of file n: a header and records
abbrev pub first_bytes : List QueueId → ℕ → WholeHeader → List LogRecord → List ℕ
first_bytes queues n h carries = encode_header h ++ encode_all (wal queues) n carries

-- the ops keep each lane sound
abbrev pub AreSound : List QueueId → List Op → Type 0
AreSound queues ops = (lanes : Lanes) × (replay (wal queues) (op_records ops) (Some no_lanes) ≡ Some lanes)

-- each may be written to file n
abbrev pub AreWritable : ℕ → List Op → Type 0
AreWritable n ops = AllByRecursion (RecordFits n) (op_records ops)

-- what recovery reads of what a crash left
abbrev pub lanes_read : List QueueId → ℕ → Remains → Option Lanes
lanes_read queues bound i = found_world (wal queues) ((reading (wal queues) bound (logs_of i)).found)

-- the premise on what a crash leaves, for each log file
abbrev pub IsHonestImage : List QueueId → Disk → Remains → Type 0
IsHonestImage queues d i =
    (n : ℕ) (f : FileState) (bytes : List ℕ) → d (log_of n) ≡ Some f → i (log_of n) ≡ Some bytes
    → IsHonest (wal queues) n f bytes

-- after these ops were noticed, and those given
abbrev pub KeepsPromise : List QueueId → ℕ → List Op → List Op → Disk → Type 0
KeepsPromise queues bound noticed given d = Promises (wal queues) bound (op_records noticed) (op_records given) d

-- all that was given is on the disk
abbrev pub HoldsOps : List QueueId → ℕ → List Op → Disk → Type 0
HoldsOps queues bound given d = Holds (wal queues) bound (op_records given) d

-- whatever a crash leaves reads as the disk does
abbrev pub IsSettledDisk : List QueueId → ℕ → Disk → Type 0
IsSettledDisk queues bound d = IsSteady (wal queues) bound (reading (wal queues) bound (shown_logs (files_of d)))
    (files_of d)

-- what a crash leaves of a disk, under the premise, gives each queue what it was promised
abbrev pub IsRecoverable : List QueueId → ℕ → List Op → List Op → Disk → Type 0
IsRecoverable queues bound noticed given d = (i : Remains) → IsImage d i → IsHonestImage queues d i
    → RecoversLanes noticed given (lanes_read queues bound i)

-- recovery has settled on some of the given ops, with all the noticed ones among them: these are on the disk, and
-- each image has them all
pub record SettlesOn (queues : List QueueId) (bound : ℕ) (noticed given : List Op) (d : Disk) : Type 0 where
  pub ops : List Op
  pub held : IsFront noticed ops
  pub front : IsFront ops given
  pub holds : HoldsOps queues bound ops d
  pub promise : KeepsPromise queues bound ops ops d
