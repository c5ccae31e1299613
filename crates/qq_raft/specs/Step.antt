-- A Raft server with its queue: what each input makes of both (Ongaro's dissertation, sections 2.1 and 3.5).
--
-- Committed entries are applied in their order, each once, as soon as they are known to be committed.
use Rattle.std.specs.Prelude.{ℕ, ◌+◌, Bool, List, [], ◌∷◌, ◌++◌, drop, take, ◌==◌, ◌&&◌, ◌⊎◌, if◌then◌else◌}
use Rattle.qq_base.specs.declared.ids.Index.{Index}
use Rattle.qq_entry.specs.declared.answer.Answer.{Answer}
use Rattle.qq_entry.specs.declared.audit.Effect.{Effect}
use Rattle.qq_entry.specs.declared.command.Command.{Command}
use Rattle.qq_entry.specs.declared.command.Entry.{Entry}
use Rattle.qq_raft_msg.specs.Queue.{Applied}
use Rattle.qq_raft_msg.specs.declared.rpc.Rpc.{Rpc}
use Rattle.qq_raft_model.specs.Server.{is_ready, tick as tick_raft, receive as receive_raft, submit as submit_raft, add as add_raft, notice as notice_raft}
use Rattle.qq_raft_model.specs.Leading.{flush as flush_raft}
use Rattle.qq_raft_model.specs.State.{Server as Raft}
use Rattle.qq_raft.specs.declared.row.AppliedRow.{AppliedRow}

-- P are the states of a queue
pub record ServerState (P : Type 0) : Type 0 where
  pub raft : Raft
  pub queue : P
  pub applied : ℕ  -- the index of the last entry that was applied
  pub rows : List AppliedRow  -- that are to be taken away

-- ---- applying entries

abbrev pub next_index : {P : Type 0} → ServerState P → Index
next_index s = record { 0 = s.applied + 1 }

abbrev pub row_of : Index → Entry → Bool → Answer → List Effect → AppliedRow
row_of index e fresh answer effects =
    record { row = record { index = index; entry = e; fresh = fresh; answer = answer }; effects = effects }

-- a row that is shown, or none
abbrev pub shown_row : Bool → Index → Entry → Bool → Answer → List Effect → List AppliedRow
shown_row shown index e fresh answer effects = if shown then row_of index e fresh answer effects ∷ [] else []

-- a leader that has committed an entry of its term answers, and for entries of its term alone (section 6.4)
abbrev pub shows : Raft → Entry → Bool
shows raft e = is_ready raft && (e.term.0 == raft.term.0)

-- the next entry is applied
unfoldable pub apply_next : {P : Type 0} → (P → Index → Entry → Applied P) → Entry → ServerState P → ServerState P
apply_next step e s =
    let made = step s.queue (next_index s) e in
    record s {
      queue = made.state;
      applied = s.applied + 1;
      rows = s.rows ++ shown_row (shows s.raft e) (next_index s) e made.fresh made.answer made.effects;
    }

abbrev pub apply_all :
    {P : Type 0} → (P → Index → Entry → Applied P) → List Entry → ServerState P → ServerState P
apply_all step [] s = s
apply_all step (e ∷ es) s = apply_all step es (apply_next step e s)

-- the entries that are committed and weren't applied
abbrev pub unapplied : {P : Type 0} → ServerState P → List Entry
unapplied s = drop s.applied (take s.raft.commit s.raft.log)

unfoldable pub apply_committed : {P : Type 0} → (P → Index → Entry → Applied P) → ServerState P → ServerState P
apply_committed step s = apply_all step (unapplied s) s

-- one of these entries would raise a number of the queue past its end
abbrev pub PassesEnd :
    {P : Type 0} → (P → Index → Entry → Applied P) → (P → Index → Entry → Type 0) → List Entry → ServerState P → Type 0
PassesEnd step passes [] s = ⊥
PassesEnd step passes (e ∷ es) s =
    passes s.queue (next_index s) e ⊎ PassesEnd step passes es (apply_next step e s)

-- ---- the inputs

abbrev pub with_raft : {P : Type 0} → Raft → ServerState P → ServerState P
with_raft raft s = record s { raft = raft }

abbrev pub tick : {P : Type 0} → ServerState P → ServerState P
tick s = with_raft (tick_raft s.raft) s

abbrev pub submit : {P : Type 0} → ℕ → Command → ServerState P → ServerState P
submit time command s = with_raft (submit_raft time command s.raft) s

abbrev pub add : {P : Type 0} → ℕ → Command → ServerState P → ServerState P
add time command s = with_raft (add_raft time command s.raft) s

abbrev pub flush : {P : Type 0} → ServerState P → ServerState P
flush s = with_raft (flush_raft s.raft) s

abbrev pub receive : {P : Type 0} → (P → Index → Entry → Applied P) → Rpc → ServerState P → ServerState P
receive step rpc s = apply_committed step (with_raft (receive_raft rpc s.raft) s)

abbrev pub notice : {P : Type 0} → (P → Index → Entry → Applied P) → ℕ → ServerState P → ServerState P
notice step op s = apply_committed step (with_raft (notice_raft op s.raft) s)

-- a server that has applied nothing
abbrev pub new_state : {P : Type 0} → Raft → P → ServerState P
new_state raft queue = record { raft = raft; queue = queue; applied = 0; rows = [] }
