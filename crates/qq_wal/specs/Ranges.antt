-- Which of a queue's entries lie in which log file (the Ra library's internals: the write-ahead log keeps for each file
-- the range of indices that each server has in it).
use Rattle.std.specs.Prelude.{ℕ, List, [], ◌++◌, length, Option, Some, None, nat_eq, if◌then◌else◌}
use Rattle.std.specs.List.{fold}
use Rattle.std.specs.Ordering.{nat_cmp, is_eq}
use Rattle.qq_base.specs.declared.ids.Index.{Index}
use Rattle.qq_base.specs.declared.ids.QueueId.{QueueId}
use Rattle.qq_log.specs.declared.head.Span.{Span}
use Rattle.qq_log.specs.declared.op.Op.{Op}
use Rattle.qq_log.specs.declared.op.Op.TheVariants.{Change, SnapshotMade, SegmentMade}
use Rattle.qq_wal_record.specs.declared.record.LogRecord.{LogRecord}
use Rattle.qq_wal_record.specs.declared.record.LogRecord.TheVariants.{Op as OpRecord, Carry as CarryRecord}
use Rattle.std.specs.BTreeMap.{get}
use Rattle.qq_wal.specs.declared.ranges.QueueRanges.{QueueRanges}
use Rattle.qq_wal.specs.declared.ranges.FileRanges.{FileRanges}
use Rattle.qq_wal.specs.Spans.{Range, range_to, range_behind, spans_to, span_of, least_kept, find_file}

-- ---- a queue

-- where the queue's entries lie, the oldest file first
abbrev pub places_of : QueueRanges → List Span
places_of q = spans_to q.cut q.older ++ span_of q.file q.own

-- a queue without entries
abbrev pub new_ranges : QueueRanges
new_ranges = record { file = 0; own = None; older = []; cut = None }

-- a change that is written to the present file cuts the log behind an index, and adds so many entries there
abbrev pub write : ℕ → ℕ → QueueRanges → QueueRanges
write keep count q =
    record q { own = range_behind keep count (range_to keep q.own); cut = Some (least_kept q.cut keep) }

-- the queue's changes are written to this file from now on
abbrev pub begin_file : ℕ → QueueRanges → QueueRanges
begin_file file q = record { file = file; own = None; older = places_of q; cut = None }

-- and where they are already, nothing changes
abbrev pub enter_file : ℕ → QueueRanges → QueueRanges
enter_file file q = if nat_eq q.file file then q else begin_file file q

-- ---- all queues

-- the ranges of each queue by its number, None where it isn't listed
abbrev pub AllRanges : Type 0
AllRanges = ℕ → Option QueueRanges

abbrev pub ranges_in : FileRanges → AllRanges
ranges_in all = get nat_cmp all.rows

abbrev pub no_queues : AllRanges
no_queues = λ id. None

abbrev pub put_ranges : AllRanges → ℕ → QueueRanges → AllRanges
put_ranges all id q = λ k. if is_eq (nat_cmp id k) then Some q else all k

abbrev pub list_queue : AllRanges → QueueId → AllRanges
list_queue all id = put_ranges all id.0 new_ranges

-- of queues without entries
abbrev pub ranges_of : List QueueId → AllRanges
ranges_of queues = fold list_queue no_queues queues

-- what is done to one queue's ranges, where it is listed
abbrev pub change_by : (QueueRanges → QueueRanges) → AllRanges → ℕ → Option QueueRanges → AllRanges
change_by f all id None = all
change_by f all id (Some q) = put_ranges all id (f q)

abbrev pub change_ranges : (QueueRanges → QueueRanges) → AllRanges → ℕ → AllRanges
change_ranges f all id = change_by f all id (all id)

-- an op that is written to the present file
abbrev pub write_op : AllRanges → Op → AllRanges
write_op all (Change id op term vote keep entries) = change_ranges (write keep.0 (length entries)) all id.0
write_op all (SnapshotMade id op head file) = all
write_op all (SegmentMade id op file first last) = all

-- an op that stands in a file
abbrev pub write_op_in : ℕ → AllRanges → Op → AllRanges
write_op_in file all (Change id op term vote keep entries) =
    change_ranges (λ (q : QueueRanges). write keep.0 (length entries) (enter_file file q)) all id.0
write_op_in file all (SnapshotMade id op head number) = all
write_op_in file all (SegmentMade id op number first last) = all

abbrev pub write_record : AllRanges → LogRecord → AllRanges
write_record all (OpRecord op) = write_op all op
write_record all (CarryRecord c) = all

-- the changes of each of these queues are written to a new file from now on
abbrev pub begin_queue : ℕ → AllRanges → AllRanges → QueueId → AllRanges
begin_queue file old new id = change_by (begin_file file) new id.0 (old id.0)

abbrev pub begin_files : ℕ → List QueueId → AllRanges → AllRanges
begin_files file queues all = fold (begin_queue file all) no_queues queues

abbrev pub as_indices : Range → Option (Index × Index)
as_indices None = None
as_indices (Some r) = Some (record { 0 = r.0 }, record { 0 = r.1 })

abbrev pub in_file_by : ℕ → Option QueueRanges → Option (Index × Index)
in_file_by file None = None
in_file_by file (Some q) = as_indices (find_file file (places_of q))

-- the first and the last entry of a queue that lies in a log file
abbrev pub in_file : AllRanges → QueueId → ℕ → Option (Index × Index)
in_file all id file = in_file_by file (all id.0)
