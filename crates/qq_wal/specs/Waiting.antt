-- What waits for an append.
use Rattle.std.specs.Prelude.{List}
use Rattle.qq_wal_record.specs.declared.record.LogRecord.{LogRecord}

-- the records that are written of the ops, the first first
pub record WaitingRecords : Type 0 where
  pub items : List LogRecord
