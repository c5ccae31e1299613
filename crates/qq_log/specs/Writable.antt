-- Which ops and carries may be written.
use Rattle.std.specs.Prelude.{◌≡◌, ◌<◌, ◌≤◌, ◌+◌, ◌*◌, ◌^◌, ℕ, true, length, All, Option, IfSome}
use Rattle.std.specs.List.{flat_map}
use Rattle.qq_base.specs.declared.ids.NodeId.{NodeId}
use Rattle.qq_base.specs.declared.ids.QueueId.{QueueId}
use Rattle.qq_base.specs.declared.memory.TheConstants.{NUMBER_END}
use Rattle.qq_entry.specs.Range.{IsWritable as IsEntry}
use Rattle.qq_command.specs.Encoding.{encoding}
use Rattle.qq_log.specs.declared.limits.TheConstants.{NODE_LIMIT, PAYLOAD_LIMIT, RECORD_LIMIT}
use Rattle.qq_log.specs.declared.head.SnapshotHead.{SnapshotHead}
use Rattle.qq_log.specs.declared.head.Span.{Span}
use Rattle.qq_log.specs.declared.lane.Carry.{Carry}
use Rattle.qq_log.specs.declared.op.Op.{Op}
use Rattle.qq_log.specs.declared.op.Op.TheVariants.{Change, SnapshotMade, SegmentMade}

-- ---- fields that have bytes

abbrev pub IsLong : ℕ → Type 0
IsLong n = n < 2 ^ 64

abbrev pub IsQueue : QueueId → Type 0
IsQueue queue = queue.0 < 2 ^ 32

abbrev pub IsVote : Option NodeId → Type 0
IsVote vote = IfSome vote (λ node. (1 ≤ node.0) × (node.0 ≤ NODE_LIMIT))

abbrev pub IsHead : SnapshotHead → Type 0
IsHead head = IsLong head.index.0 × IsLong head.term.0 × IsLong head.through.0

-- a segment, as a carry names it
abbrev pub IsSegment : Span → Type 0
IsSegment span = (span.segment ≡ true) × IsLong span.file × IsLong span.first.0 × IsLong span.last.0

abbrev pub HasFields : Op → Type 0
HasFields (Change queue op term vote keep entries) =
    IsQueue queue × IsLong op × IsLong term.0 × IsVote vote × IsLong keep.0 × All IsEntry entries
HasFields (SnapshotMade queue op head file) = IsQueue queue × IsLong op × IsHead head × IsLong file
HasFields (SegmentMade queue op file first last) =
    IsQueue queue × IsLong op × IsLong file × IsLong first.0 × IsLong last.0

-- ---- how long a payload is

abbrev pub payload_length : Op → ℕ
payload_length (Change queue op term vote keep entries) = 21 + length (flat_map encoding entries)
payload_length (SnapshotMade queue op head file) = 32
payload_length (SegmentMade queue op file first last) = 24

-- an op that may be written: entries in range with their content, fields in range, a payload within its limit
pub record IsWritable (op : Op) : Type 0 where
  pub fields : HasFields op
  pub payload : payload_length op ≤ PAYLOAD_LIMIT

-- the bytes of a carry's payload
abbrev pub carry_length : Carry → ℕ
carry_length c = 53 + 24 * length c.segments

-- a carry that may be written: as many segments as a payload's length can count
pub record IsWritableCarry (c : Carry) : Type 0 where
  pub queue : IsQueue c.queue
  pub op : IsLong c.op
  pub term : IsLong c.term.0
  pub vote : IsVote c.vote
  pub base : IsHead c.base
  pub snapshot : IsLong c.snapshot
  pub segments : All IsSegment c.segments
  pub last : IsLong c.last.0
  pub payload : carry_length c < 2 ^ 32

-- ---- numbers at or below their end

abbrev pub IsWithinEnd : ℕ → Type 0
IsWithinEnd n = n ≤ NUMBER_END

abbrev pub IsHeadWithinEnds : SnapshotHead → Type 0
IsHeadWithinEnds head = IsWithinEnd head.index.0 × IsWithinEnd head.term.0 × IsWithinEnd head.through.0

-- no term, index, op or file number of an op is past its end
abbrev pub IsWithinEnds : Op → Type 0
IsWithinEnds (Change queue op term vote keep entries) =
    IsWithinEnd op × IsWithinEnd term.0 × IsWithinEnd (keep.0 + length entries) × All (λ e. IsWithinEnd e.term.0)
    entries
IsWithinEnds (SnapshotMade queue op head file) = IsWithinEnd op × IsHeadWithinEnds head × IsWithinEnd file
IsWithinEnds (SegmentMade queue op file first last) =
    IsWithinEnd op × IsWithinEnd file × IsWithinEnd first.0 × IsWithinEnd last.0

-- ---- what the shared log takes

-- as long as there are neither snapshots nor segments, an op that names one can't be handed in
abbrev pub IsChange : Op → Type 0
IsChange (Change queue op term vote keep entries) = Unit {0}
IsChange (SnapshotMade queue op head file) = ⊥
IsChange (SegmentMade queue op file first last) = ⊥

-- an op that may be handed to the log: a change with its fields in range, none of whose numbers is past its end
pub record MayGather (op : Op) : Type 0 where
  pub fields : HasFields op
  pub ends : IsWithinEnds op
  pub change : IsChange op

-- the bytes of an op's record: its head (length, kind, queue and number), its payload and its mark
abbrev pub record_length : Op → ℕ
record_length op = 25 + payload_length op

-- an op that the log takes and writes: its record is no longer than a batch may be
pub record MayWrite (op : Op) : Type 0 where
  pub gather : MayGather op
  pub short : record_length op ≤ RECORD_LIMIT
