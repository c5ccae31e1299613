-- A server's log as contracts see it.
use Rattle.std.specs.Prelude.{ℕ, Bool, List, [], Option, Some, None, option_map, ◌==◌, if◌then◌else◌}
use Rattle.qq_base.specs.declared.ids.NodeId.{NodeId}
use Rattle.qq_base.specs.declared.ids.Term.{Term}
use Rattle.qq_entry.specs.declared.command.Entry.{Entry}
use Rattle.qq_log.specs.declared.head.SnapshotHead.{SnapshotHead}
use Rattle.qq_log.specs.declared.lane.Lane.{Lane}
use Rattle.qq_log.specs.Above.{last_above, item_above, drop_above}

pub record LogState : Type 0 where
  pub op : ℕ  -- op, term and vote of the lane that the log was made from
  pub term : Term
  pub vote : Option NodeId
  pub base : SnapshotHead
  pub shadow : Option (List ℕ)  -- that lane's, until the first rebase
  pub entries : List Entry  -- above the base
  pub room : ℕ  -- how many more can be appended for sure

-- the log of a lane
abbrev pub log_of : Lane → ℕ → LogState
log_of lane room =
    record {
      op = lane.op;
      term = lane.term;
      vote = lane.vote;
      base = lane.base;
      shadow = lane.shadow;
      entries = lane.entries;
      room = room;
    }

abbrev pub last_of : LogState → ℕ
last_of l = last_above l.base.index.0 l.entries

abbrev pub entry_at : LogState → ℕ → Option Entry
entry_at l index = item_above l.base.index.0 l.entries index

-- the term of an entry, or of the base
abbrev pub term_at : LogState → ℕ → Option Term
term_at l index = if index == l.base.index.0 then Some l.base.term else option_map (λ e. e.term) (entry_at l index)

abbrev pub is_term : Term → Option Term → Bool
is_term term None = Bool.false
is_term term (Some own) = own.0 == term.0

-- the entries behind a snapshot stay where the log's entry at its index has its term
abbrev pub entries_behind : LogState → SnapshotHead → List Entry
entries_behind l head =
    if is_term head.term (term_at l head.index.0) then drop_above l.base.index.0 head.index.0 l.entries else []
