-- What leads back from a server's changes to all that its disk may still hold (Ongaro's dissertation, section 10.2.1).
use Rattle.std.specs.Prelude.{◌≡◌, ◌⊎◌, ◌+◌, ◌-◌, ℕ, zero, suc, Bool, true, List, [], ◌∷◌, ◌++◌, length, take, drop, Option, None, option_map, nat_le, ◌&&◌, slice_get}
use Rattle.qq_base.specs.declared.ids.NodeId.{NodeId}
use Rattle.qq_base.specs.declared.ids.QueueId.{QueueId}
use Rattle.qq_base.specs.declared.ids.Term.{Term}
use Rattle.qq_entry.specs.declared.command.Entry.{Entry}
use Rattle.qq_log.specs.Log.{LogState}
use Rattle.qq_log.specs.Stable.{Stable}
use Rattle.qq_log.specs.declared.head.SnapshotHead.{SnapshotHead}
use Rattle.qq_log.specs.declared.op.Op.{Op}
use Rattle.qq_log.specs.declared.op.Op.TheVariants.{Change}
use Rattle.qq_raft_model.specs.Handing.{plain_state}
use Rattle.qq_raft_core.specs.declared.lanes.Lanes.{Lanes}
use Rattle.qq_raft_core.specs.declared.raft.Raft.{Raft}
use Rattle.qq_raft_core.specs.declared.undo.Undo.{Undo}

-- what a disk is to hold after a change
pub record Held : Type 0 where
  pub op : ℕ
  pub term : Term
  pub vote : Option NodeId
  pub log : List Entry

-- as the definition of a log has it
abbrev pub stable_of : Held → Stable
stable_of h = plain_state h.op h.term h.vote h.log

-- ---- before some changes, the first of them first

abbrev pub term_before : List Undo → Term → Term
term_before [] term = term
term_before (u ∷ us) term = u.term

abbrev pub vote_before : List Undo → Option NodeId → Option NodeId
vote_before [] vote = vote
vote_before (u ∷ us) vote = u.vote

abbrev pub log_before : List Undo → List Entry → List Entry
log_before [] log = log
log_before (u ∷ us) log = take u.keep (log_before us log) ++ u.cut

abbrev pub undone : List Undo → Held → Held
undone us h =
    record {
      op = h.op - length us;
      term = term_before us h.term;
      vote = vote_before us h.vote;
      log = log_before us h.log;
    }

-- each of them kept no more entries than there were
abbrev pub keeps_within : List Undo → List Entry → Bool
keeps_within [] log = true
keeps_within (u ∷ us) log = nat_le u.keep (length (log_before us log)) && keeps_within us log

-- after the change with a number, where the last changes are these
abbrev pub held_after : ℕ → List Undo → Held → Held
held_after op us h = undone (drop (op + length us - h.op) us) h

-- there is a change for each of them, and it kept what was there
abbrev pub leads_back : ℕ → List Undo → List Entry → Bool
leads_back op us log = nat_le (length us) op && keeps_within us log

-- ---- of a server

abbrev pub held_by : {L : Type 0} → (L → LogState) → Raft L → Held
held_by log r = record { op = r.op; term = r.term; vote = r.vote; log = (log r.log).entries }

-- what leads back from a change that keeps so many entries
abbrev pub undo_of : {L : Type 0} → (L → LogState) → ℕ → Raft L → Undo
undo_of log keep r =
    record { term = r.term; vote = r.vote; keep = keep; cut = drop keep (log r.log).entries }

-- what was held when a call began, and what led back by then
pub record Before : Type 0 where
  pub held : Held
  pub base : SnapshotHead
  pub undos : List Undo
  pub count : ℕ
  pub leads : Bool

abbrev pub before : {L : Type 0} → (L → LogState) → Raft L → Before
before log r =
    record {
      held = undone (drop r.mark r.undos.items) (held_by log r);
      base = (log r.log).base;
      undos = take r.mark r.undos.items;
      count = r.mark;
      leads = leads_back r.op r.undos.items (log r.log).entries;
    }

-- what a call begins with
abbrev pub begun : {L : Type 0} → (L → LogState) → Raft L → Before
begun log r =
    record {
      held = held_by log r;
      base = (log r.log).base;
      undos = r.undos.items;
      count = length r.undos.items;
      leads = leads_back r.op r.undos.items (log r.log).entries;
    }

-- a call, refused or not, leaves what was held, or what leads back to it
abbrev pub LeadsBack : {L : Type 0} → (L → LogState) → Raft L → Raft L → Type 0
LeadsBack log old new = (begun log new ≡ begun log old) ⊎ (before log new ≡ begun log old)

-- the undos of changes that aren't noticed
abbrev pub unnoticed : {L : Type 0} → Raft L → List Undo
unnoticed r = drop (length r.undos.items - (r.op - r.noticed)) r.undos.items

-- ---- the change that was handed out last

abbrev pub change_at : QueueId → Undo → Held → Op
change_at queue u h = Change queue h.op h.term h.vote (record { 0 = u.keep }) (drop u.keep h.log)

abbrev pub change_before : {L : Type 0} → (L → LogState) → Raft L → ℕ → Option Op
change_before log r zero = None
change_before log r (suc place) =
    option_map (λ (u : Undo). change_at r.queue u (undone (drop (suc place) r.undos.items) (held_by log r)))
    (slice_get r.undos.items place)

-- None where nothing leads back from it any more
abbrev pub last_handed : {L : Type 0} → (L → LogState) → Raft L → Option Op
last_handed log r = change_before log r (length r.undos.items - length r.ops.items)

-- ---- of what a server leaves

abbrev pub newest : {L : Type 0} → (L → LogState) → Lanes L → Held
newest log l = record { op = l.op; term = l.term; vote = l.vote; log = (log l.log).entries }

-- what a log holds that is found
abbrev pub found : LogState → Held
found l = record { op = l.op; term = l.term; vote = l.vote; log = l.entries }
