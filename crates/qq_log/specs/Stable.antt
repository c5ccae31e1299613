-- What a queue's ops come to: the state that the log keeps for its server.
--
-- A log is a list of entries above a base. Those that stand in a segment alone are known by their place, and
-- None stands for them (the Ra library's internals: write-ahead log, segments and snapshots).
use Rattle.std.specs.Prelude.{◌≤◌, IsTrue, option_to_list, ℕ, ◌+◌, ◌-◌, Bool, true, false, List, [], ◌∷◌, ◌++◌, length, map, filter, fold, replicate, min, Option, Some, None, option_map, nat_le, nat_lt, ◌==◌, ◌&&◌, if◌then◌else◌}
use Rattle.std.specs.List.{flat_map}
use Rattle.qq_base.specs.declared.ids.Index.{Index}
use Rattle.qq_base.specs.declared.ids.NodeId.{NodeId}
use Rattle.qq_base.specs.declared.ids.QueueId.{QueueId}
use Rattle.qq_base.specs.declared.ids.Term.{Term}
use Rattle.qq_entry.specs.declared.command.Entry.{Entry}
use Rattle.qq_log.specs.declared.head.SnapshotHead.{SnapshotHead}
use Rattle.qq_log.specs.declared.head.Span.{Span}
use Rattle.qq_log.specs.declared.lane.Carry.{Carry}
use Rattle.qq_log.specs.declared.op.Op.{Op}
use Rattle.qq_log.specs.declared.op.Op.TheVariants.{Change, SnapshotMade, SegmentMade}
use Rattle.qq_log.specs.Above.{last_above, take_above, drop_above}
use Rattle.qq_log.specs.Op.{number}
use Rattle.qq_log.specs.Same.{same_carry}

pub record Stable : Type 0 where
  pub op : ℕ  -- the number of the last op, 0 before the first
  pub term : Term
  pub vote : Option NodeId
  pub base : SnapshotHead  -- all 0 where there is no snapshot
  pub snapshot : ℕ  -- the number of the snapshot's file, 0 where there is none
  pub log : List (Option Entry)  -- the entries above the base
  pub segments : List Span  -- those that have an entry of the log, in the order in which they were named

abbrev pub no_snapshot : SnapshotHead
no_snapshot = record { index = record { 0 = 0 }; term = record { 0 = 0 }; through = record { 0 = 0 } }

-- the state of a queue without ops
abbrev pub new_state : Stable
new_state =
    record { op = 0; term = record { 0 = 0 }; vote = None; base = no_snapshot; snapshot = 0; log = []; segments = [] }

-- the index of the last entry
abbrev pub last_index : Stable → ℕ
last_index s = last_above s.base.index.0 s.log

-- ---- when an op is sound

-- a queue's ops are numbered by one
abbrev pub follows : Stable → ℕ → Bool
follows s op = op == s.op + 1

-- a log is cut between its base and its end
abbrev pub may_keep : Stable → ℕ → Bool
may_keep s keep = nat_le s.base.index.0 keep && nat_le keep (last_index s)

-- a base never goes back
abbrev pub may_rebase : Stable → SnapshotHead → Bool
may_rebase s head = nat_le s.base.index.0 head.index.0

-- a segment has entries of the log, one or more
abbrev pub has_range : Stable → ℕ → ℕ → Bool
has_range s first last = nat_lt s.base.index.0 first && nat_le first last && nat_le last (last_index s)

-- ---- what an op does

-- a segment's entries up to an index; the record that named it said where it begins
abbrev pub cut_span : ℕ → Span → Span
cut_span index span = record span { last = record { 0 = min span.last.0 index } }

-- a segment has an entry above an index
abbrev pub reaches_above : ℕ → Span → Bool
reaches_above index span = nat_lt index span.last.0 && nat_le span.first.0 span.last.0

-- the segments that have an entry from the base to the end
abbrev pub segments_between : ℕ → ℕ → List Span → List Span
segments_between base last spans = filter (reaches_above base) (map (cut_span last) spans)

-- the entries up to keep stay, and others follow
unfoldable pub change : Stable → Term → Option NodeId → ℕ → List Entry → Stable
change s term vote keep entries =
    record s {
      term = term;
      vote = vote;
      log = take_above s.base.index.0 keep s.log ++ map Some entries;
      segments = segments_between s.base.index.0 keep s.segments;
    }

-- the terms of the log from its base on, None where an entry isn't known
abbrev pub terms : Term → List (Option Entry) → List (Option Term)
terms base log = Some base ∷ map (option_map (λ e. e.term)) log

-- the nearest entry that is known has this term or a later one, or none is known
abbrev pub reaches_term : Term → List (Option Term) → Bool
reaches_term term [] = true
reaches_term term (None ∷ terms) = reaches_term term terms
reaches_term term (Some next ∷ terms) = nat_le term.0 next.0

-- An entry has this term, the terms from it on being given. Where it isn't known itself it is inferred: a later
-- entry of this term or a later one is there only behind an entry of this term (log matching and leader
-- completeness, Ongaro's dissertation, section 3.6).
abbrev pub has_term : Term → List (Option Term) → Bool
has_term term [] = false
has_term term (None ∷ terms) = reaches_term term terms
has_term term (Some own ∷ terms) = own.0 == term.0

-- the entries behind a snapshot stay where the log's entry at its index has its term
unfoldable pub tail_behind : SnapshotHead → SnapshotHead → List (Option Entry) → List (Option Entry)
tail_behind base head log =
    if has_term head.term (drop_above base.index.0 head.index.0 (terms base.term log)) then drop_above base.index.0
    head.index.0 log else []

unfoldable pub rebase : Stable → SnapshotHead → ℕ → Stable
rebase s head file =
    let log = tail_behind s.base head s.log in
    record s {
      base = head;
      snapshot = file;
      log = log;
      segments = segments_between head.index.0 (last_above head.index.0 log) s.segments;
    }

unfoldable pub add_segment : Stable → ℕ → Index → Index → Stable
add_segment s file first last =
    record s { segments = s.segments ++ (record { file = file; segment = true; first = first; last = last } ∷ []) }

-- what an op does to the rest of the state, None where it isn't sound
abbrev pub act : Stable → Op → Option Stable
act s (Change queue op term vote keep entries) =
    if may_keep s keep.0 then Some (change s term vote keep.0 entries) else None
act s (SnapshotMade queue op head file) = if may_rebase s head then Some (rebase s head file) else None
act s (SegmentMade queue op file first last) =
    if has_range s first.0 last.0 then Some (add_segment s file first last) else None

-- the state after one op more, None where it isn't sound
unfoldable pub apply_op : Stable → Op → Option Stable
apply_op s op = if follows s (number op) then act (record s { op = number op }) op else None

-- the state after an op more, where there is one
abbrev pub then_apply : Option Stable → Op → Option Stable
then_apply None op = None
then_apply (Some s) op = apply_op s op

-- what ops make of a state, None where one of them isn't sound
abbrev pub apply_ops : Stable → List Op → Option Stable
apply_ops s ops = fold then_apply (Some s) ops

-- what a queue's ops come to, from the first on
abbrev pub stable : List Op → Option Stable
stable ops = apply_ops new_state ops

-- the entries of a log that are known
abbrev pub known_entries : List (Option Entry) → List Entry
known_entries log = flat_map option_to_list log

-- a segment of which an entry is in the log
abbrev pub IsOfLog : Stable → Span → Type 0
IsOfLog s span = IsTrue (reaches_above s.base.index.0 span) × (span.last.0 ≤ last_index s)

-- ---- what a carry restates

-- a state's carry: all but the entries
abbrev pub carry_of : QueueId → Stable → Carry
carry_of queue s =
    record {
      queue = queue;
      op = s.op;
      term = s.term;
      vote = s.vote;
      base = s.base;
      snapshot = s.snapshot;
      segments = s.segments;
      last = record { 0 = last_index s };
    }

-- the state that a carry restates, none of whose entries is known
abbrev pub state_of : Carry → Stable
state_of c =
    record {
      op = c.op;
      term = c.term;
      vote = c.vote;
      base = c.base;
      snapshot = c.snapshot;
      log = replicate (c.last.0 - c.base.index.0) None;
      segments = c.segments;
    }

-- whether a carry says what the state is
abbrev pub restates : Carry → Stable → Bool
restates c s = same_carry c (carry_of c.queue s)

-- The state behind a carry, None where it isn't sound. At the front of what is read it says where to begin;
-- behind other records of its queue it restates what they come to.
unfoldable pub take_carry : Option Stable → Carry → Option Stable
take_carry None c = if nat_le c.base.index.0 c.last.0 then Some (state_of c) else None
take_carry (Some s) c = if restates c s then Some s else None

-- the state with no entry known
abbrev pub forget_entries : Stable → Stable
forget_entries s = record s { log = replicate (length s.log) None }
