-- The queues of a log, and what its records make of them.
use Rattle.std.specs.Prelude.{◌≡◌, ◌≤◌, ◌+◌, ℕ, Bool, true, false, List, [], ◌∷◌, length, filter, take, Option, Some, None, option_map, unwrap_or, nat_eq, nat_le, ◌&&◌, if◌then◌else◌}
use Rattle.qq_base.specs.declared.ids.QueueId.{QueueId}
use Rattle.std.specs.List.{list_all}
use Rattle.qq_base.specs.declared.memory.TheConstants.{NUMBER_END}
use Rattle.qq_log.specs.Carries.{is_listed}
use Rattle.qq_log.specs.declared.head.SnapshotHead.{SnapshotHead}
use Rattle.qq_log.specs.declared.lane.Carry.{Carry}
use Rattle.qq_log.specs.declared.op.Op.{Op}
use Rattle.qq_log.specs.declared.op.Op.TheVariants.{Change, SnapshotMade, SegmentMade}
use Rattle.qq_log.specs.Op.{queue}
use Rattle.qq_log.specs.Stable.{Stable, new_state, apply_op, take_carry, stable}
use Rattle.qq_wal_record.specs.declared.record.LogRecord.{LogRecord}
use Rattle.qq_wal_record.specs.declared.record.LogRecord.TheVariants.{Op as OpRecord, Carry as CarryRecord}
use Rattle.qq_base.specs.Fronts.{IsFront}
use Rattle.qq_wal_chain.specs.Image.{put}

-- the state of each queue by its number, None where it has no ops
abbrev pub Lanes : Type 0
Lanes = ℕ → Option Stable

abbrev pub put_lane : Lanes → QueueId → Option Stable → Option Lanes
put_lane lanes id state = option_map (λ s. put lanes id.0 (Some s)) state

-- ---- what recovery takes

abbrev pub is_within_end : ℕ → Bool
is_within_end n = nat_le n NUMBER_END

-- no index, term or number is past its end
abbrev pub is_head_within_ends : SnapshotHead → Bool
is_head_within_ends head =
    is_within_end head.index.0 && is_within_end head.term.0 && is_within_end head.through.0

abbrev pub is_op_within_ends : Op → Bool
is_op_within_ends (Change id op term vote keep entries) =
    is_within_end op && is_within_end term.0 && is_within_end (keep.0 + length entries)
    && list_all (λ e. is_within_end e.term.0) entries
is_op_within_ends (SnapshotMade id op head file) = is_within_end op && is_head_within_ends head && is_within_end file
is_op_within_ends (SegmentMade id op file first last) =
    is_within_end op && is_within_end file && is_within_end first.0 && is_within_end last.0

abbrev pub is_carry_within_ends : Carry → Bool
is_carry_within_ends c =
    is_within_end c.op && is_within_end c.term.0 && is_head_within_ends c.base && is_within_end c.snapshot
    && is_within_end c.last.0

-- as long as there are neither snapshots nor segments, an op that names one fits nowhere
abbrev pub is_change : Op → Bool
is_change (Change id op term vote keep entries) = true
is_change (SnapshotMade id op head file) = false
is_change (SegmentMade id op file first last) = false

-- and a carry neither
abbrev pub is_plain : Carry → Bool
is_plain c = nat_eq c.base.index.0 0 && nat_eq (length c.segments) 0

-- where a queue's records begin with a carry, no entry may lie before it
abbrev pub has_entries : Option Stable → Carry → Bool
has_entries None c = nat_eq c.last.0 0
has_entries (Some s) c = true

-- ---- records

-- an op adds to its queue's state
abbrev pub add_op : List QueueId → Op → Lanes → Option Lanes
add_op queues op lanes =
    if is_listed queues (queue op) && is_op_within_ends op && is_change op then
    put_lane lanes (queue op) (apply_op (unwrap_or (lanes (queue op).0) new_state) op) else None

-- a carry restates its queue's state
abbrev pub add_carry : List QueueId → Carry → Lanes → Option Lanes
add_carry queues c lanes =
    if is_listed queues c.queue && is_carry_within_ends c && is_plain c && has_entries (lanes c.queue.0) c then
    put_lane lanes c.queue (take_carry (lanes c.queue.0) c) else None

abbrev pub add_record : List QueueId → LogRecord → Lanes → Option Lanes
add_record queues (OpRecord op) lanes = add_op queues op lanes
add_record queues (CarryRecord c) lanes = add_carry queues c lanes

-- ---- each queue

abbrev pub of_queue : ℕ → List Op → List Op
of_queue id ops = filter (λ op. nat_eq (queue op).0 id) ops

-- what a queue's ops come to: nothing where there are none, else a state
abbrev pub IsStateOf : List Op → Option Stable → Type 0
IsStateOf [] lane = lane ≡ None
IsStateOf (op ∷ ops) lane = (state : Stable) × (lane ≡ Some state) × (stable (op ∷ ops) ≡ Some state)

-- a queue has what some of its ops come to, from the first on, with all the noticed ones among them
pub record RecoversLane (noticed given : List Op) (lane : Option Stable) : Type 0 where
  pub ops : List Op
  pub held : IsFront noticed ops
  pub front : IsFront ops given
  pub is : IsStateOf ops lane

-- What is recovered of a queue is what its first ops come to, so many of them at least. A queue without a lane has the
-- state of one without ops.
pub record FirstOpsGive (low : ℕ) (ops : List Op) (lane : Option Stable) : Type 0 where
  pub count : ℕ
  pub least : low ≤ count
  pub most : count ≤ length ops
  pub is : Some (unwrap_or lane new_state) ≡ stable (take count ops)

-- and so has each queue
pub record RecoversLanes (noticed given : List Op) (found : Option Lanes) : Type 0 where
  pub lanes : Lanes
  pub is : found ≡ Some lanes
  pub each : (id : ℕ) → RecoversLane (of_queue id noticed) (of_queue id given) (lanes id)
