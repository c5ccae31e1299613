-- A queue's state as recovery keeps it: all of its entries are known.
use Rattle.std.specs.Prelude.{◌≡◌, ◌≤◌, ◌+◌, ℕ, true, All, IfSome, List, [], length, map, Option, Some, None, unwrap_or, ◌&&◌, if◌then◌else◌}
use Rattle.std.specs.List.{AllByRecursion}
use Rattle.qq_base.specs.declared.memory.TheConstants.{NUMBER_END}
use Rattle.qq_base.specs.declared.ids.NodeId.{NodeId}
use Rattle.qq_base.specs.declared.ids.QueueId.{QueueId}
use Rattle.qq_base.specs.declared.ids.Term.{Term}
use Rattle.qq_entry.specs.declared.command.Entry.{Entry}
use Rattle.qq_log.specs.declared.head.SnapshotHead.{SnapshotHead}
use Rattle.qq_log.specs.declared.lane.Carry.{Carry}
use Rattle.qq_log.specs.declared.lane.Lane.{Lane}
use Rattle.qq_log.specs.Lane.{IsLaneOf}
use Rattle.qq_log.specs.declared.op.Op.{Op}
use Rattle.qq_log.specs.Stable.{Stable, new_state, apply_op, take_carry, carry_of}
use Rattle.qq_entry.specs.Range.{IsWritable as IsEntry}
use Rattle.qq_log.specs.Writable.{IsHeadWithinEnds, IsVote}
use Rattle.qq_wal_chain.specs.Lanes.{is_op_within_ends, is_carry_within_ends, is_change, is_plain, has_entries}

-- all entries are known, and no segment has any
abbrev pub known_state : ℕ → Term → Option NodeId → SnapshotHead → ℕ → List Entry → Stable
known_state op term vote base snapshot entries =
    record {
      op = op;
      term = term;
      vote = vote;
      base = base;
      snapshot = snapshot;
      log = map Some entries;
      segments = [];
    }

-- an entry in range with its content, and with a term within its end
pub record IsSoundEntry (e : Entry) : Type 0 where
  pub entry : IsEntry e
  pub term : e.term.0 ≤ NUMBER_END

-- the state's carry may be written, and is one that recovery takes; its entries are sound
pub record IsCarried (s : Stable) : Type 0 where
  pub vote : IsVote s.vote
  pub within : (id : QueueId) → is_carry_within_ends (carry_of id s) ≡ true
  pub plain : (id : QueueId) → is_plain (carry_of id s) ≡ true
  pub entries : AllByRecursion (λ (o : Option Entry). IfSome o IsSoundEntry) s.log

-- The lane tells the state. As there are neither snapshots nor segments it has no snapshot's bytes, and names no place:
-- where entries lie in log files is kept by the log that goes on.
pub record IsPlainLaneOf (s : Stable) (lane : Lane) : Type 0 where
  pub state : IsLaneOf s lane
  pub shadow : lane.shadow ≡ None
  pub places : lane.places ≡ []

-- Its term, its indices and its op's number are within their ends, and its entries are in range with their content, so
-- that a server may be started with it.
pub record IsWithinEnds (lane : Lane) : Type 0 where
  pub op : lane.op ≤ NUMBER_END
  pub term : lane.term.0 ≤ NUMBER_END
  pub vote : IsVote lane.vote
  pub base : IsHeadWithinEnds lane.base
  pub last : lane.base.index.0 + length lane.entries ≤ NUMBER_END
  pub entries : All IsSoundEntry lane.entries

-- a queue's state with an op more, None where it doesn't fit
abbrev pub state_with_op : Option Stable → Op → Option Stable
state_with_op state op =
    if is_op_within_ends op && is_change op then apply_op (unwrap_or state new_state) op else None

-- and with a carry more
abbrev pub state_with_carry : Option Stable → Carry → Option Stable
state_with_carry state c =
    if is_carry_within_ends c && is_plain c && has_entries state c then take_carry state c else None
