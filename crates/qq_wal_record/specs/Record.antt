-- The parts of a record, and which records may be written.
use Rattle.std.specs.Prelude.{ℕ}
use Rattle.qq_base.specs.declared.ids.QueueId.{QueueId}
use Rattle.qq_log.specs.declared.op.Op.TheVariants.{Change, SnapshotMade, SegmentMade}
use Rattle.qq_log.specs.Op.{queue as op_queue, number as op_number}
use Rattle.qq_log.specs.Writable.{IsWritable as IsWritableOp, IsWritableCarry, payload_length as op_length, carry_length}
use Rattle.qq_wal_record.specs.declared.record.TheConstants.{CHANGE, SNAPSHOT, SEGMENT, CARRY}
use Rattle.qq_wal_record.specs.declared.record.LogRecord.{LogRecord}
use Rattle.qq_wal_record.specs.declared.record.LogRecord.TheVariants.{Op, Carry}

abbrev pub kind : LogRecord → ℕ
kind (Op (Change queue op term vote keep entries)) = CHANGE
kind (Op (SnapshotMade queue op head file)) = SNAPSHOT
kind (Op (SegmentMade queue op file first last)) = SEGMENT
kind (Carry c) = CARRY

abbrev pub queue : LogRecord → QueueId
queue (Op op) = op_queue op
queue (Carry c) = c.queue

-- the op's number; a carry has that of the last record of its queue before it
abbrev pub number : LogRecord → ℕ
number (Op op) = op_number op
number (Carry c) = c.op

abbrev pub payload_length : LogRecord → ℕ
payload_length (Op op) = op_length op
payload_length (Carry c) = carry_length c

abbrev pub IsWritable : LogRecord → Type 0
IsWritable (Op op) = IsWritableOp op
IsWritable (Carry c) = IsWritableCarry c
