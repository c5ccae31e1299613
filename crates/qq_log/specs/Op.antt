-- The parts of an op.
use Rattle.std.specs.Prelude.{ℕ}
use Rattle.qq_base.specs.declared.ids.QueueId.{QueueId}
use Rattle.qq_log.specs.declared.op.Op.{Op}
use Rattle.qq_log.specs.declared.op.Op.TheVariants.{Change, SnapshotMade, SegmentMade}

-- the queue that an op is of
abbrev pub queue : Op → QueueId
queue (Change id op term vote keep entries) = id
queue (SnapshotMade id op head file) = id
queue (SegmentMade id op file first last) = id

-- its number
abbrev pub number : Op → ℕ
number (Change id op term vote keep entries) = op
number (SnapshotMade id op head file) = op
number (SegmentMade id op file first last) = op
