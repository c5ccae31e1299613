-- What one append writes of the records that wait.
use Rattle.std.specs.Prelude.{◌≡◌, ◌⊎◌, ◌+◌, ◌≤◌, ◌<◌, ℕ, Bool, List, All, length, take, nat_le}
use Rattle.std.specs.List.{flat_map}
use Rattle.qq_log.specs.declared.limits.TheConstants.{RECORD_LIMIT}
use Rattle.qq_log.specs.declared.op.Op.{Op}
use Rattle.qq_log.specs.Writable.{record_length}
use Rattle.qq_wal_record.specs.declared.record.LogRecord.{LogRecord}
use Rattle.qq_wal_record.specs.Encoding.{record_encoding}
use Rattle.qq_wal_record.specs.Record.{IsWritable, payload_length}
use Rattle.qq_wal_record.specs.declared.record.LogRecord.TheVariants.{Op as OpRecord, Carry as CarryRecord}
use Rattle.qq_base.specs.declared.memory.TheConstants.{NUMBER_END}
use Rattle.qq_wal.specs.Notices.{last_index}
use Rattle.qq_wal.specs.declared.batch.TheConstants.{BATCH_OPS, BATCH_BYTES}

-- the bytes of records in file n, one behind the other
abbrev pub encodings : ℕ → List LogRecord → List ℕ
encodings n records = flat_map (record_encoding n) records

-- an op, none of whose indices is past their end
abbrev pub HasEnd : LogRecord → Type 0
HasEnd (OpRecord op) = last_index op ≤ NUMBER_END
HasEnd (CarryRecord carry) = ⊥

-- a record that fits into a batch of its own, heads and marks counted
abbrev pub FitsBatch : LogRecord → Type 0
FitsBatch r = IsWritable r × (25 + payload_length r ≤ BATCH_BYTES) × HasEnd r

abbrev pub AllFitBatch : List LogRecord → Type 0
AllFitBatch waiting = All FitsBatch waiting

-- an op whose record has no more bytes than a batch may have
abbrev pub is_short : Op → Bool
is_short op = nat_le (record_length op) RECORD_LIMIT

-- so many of what waits are a batch: as many as its limits allow
pub record IsBatch (n count : ℕ) (waiting : List LogRecord) : Type 0 where
  pub within : count ≤ length waiting
  pub ops : count ≤ BATCH_OPS
  pub bytes : length (encodings n (take count waiting)) ≤ BATCH_BYTES
  pub most : (count ≡ length waiting) ⊎ ((count ≡ BATCH_OPS) ⊎ (BATCH_BYTES < length (encodings n (take (count + 1) waiting))))
