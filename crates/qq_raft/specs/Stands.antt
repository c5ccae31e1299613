-- What a server holds, as the definition has it.
use Rattle.std.specs.Prelude.{◌≡◌, ◌⊎◌, ◌+◌, ℕ, Bool, true, false, List, [], ◌++◌}
use Rattle.qq_base.specs.Causes.{SpentOnlyWhere}
use Rattle.qq_base.specs.declared.ids.Index.{Index}
use Rattle.qq_base.specs.declared.memory.Memory.{Memory as MemoryCause}
use Rattle.qq_base.specs.declared.memory.TheConstants.{NUMBER_END}
use Rattle.qq_entry.specs.declared.command.Entry.{Entry}
use Rattle.qq_log.specs.Log.{LogState}
use Rattle.qq_raft_core.specs.Raft.{server_of, IsSound as IsSoundRaft, IsAtEnd, IsCaused as IsCausedRaft, HandsNothingOut as HandsNoMessage}
use Rattle.qq_raft_msg.specs.Queue.{Applied}
use Rattle.qq_raft_model.specs.Server.{is_ready}
use Rattle.qq_raft_model.specs.State.{Server as Raft, last}
use Rattle.qq_raft.specs.Step.{ServerState, PassesEnd, shown_row, unapplied, with_raft}
use Rattle.qq_raft.specs.declared.fault.SubmitFault.{SubmitFault}
use Rattle.qq_raft.specs.declared.fault.SubmitFault.TheVariants.{NotLeader, Memory}
use Rattle.qq_raft.specs.declared.row.AppliedRow.{AppliedRow}
use Rattle.qq_raft.specs.declared.server.Server.{Server}

-- the state of a server, its machine being in this state of a queue
abbrev pub state_of : {P Q L : Type 0} → (L → LogState) → P → Server Q L → ServerState P
state_of log queue server =
    record {
      raft = server_of log server.raft;
      queue = queue;
      applied = server.applied;
      rows = server.rows.items;
    }

-- a server stands for a state: its machine for the state's queue, and all else is the same
pub record StandsFor {P Q L : Type 0} (stands : P → Q → Type 0) (log : L → LogState) (s : ServerState P)
    (server : Server Q L) : Type 0 where
  pub raft : server_of log server.raft ≡ s.raft
  pub queue : stands s.queue server.machine
  pub applied : server.applied ≡ s.applied
  pub rows : server.rows.items ≡ s.rows

-- a call does what the definition says, whichever state of the queue its machine stood for
abbrev pub Does :
    {P Q L : Type 0} → (P → Q → Type 0) → (L → LogState) → (ServerState P → ServerState P) → Server Q L → Server Q L
    → Type 0
Does stands log f old new = (queue : _) → stands queue old.machine → StandsFor stands log (f (state_of log queue old)) new

-- what applying one entry gives: the queue's next state, and its row where it is shown
pub record IsNext {P Q : Type 0} (stands : P → Q → Type 0) (made : Applied P) (index : Index) (e : Entry) (shown : Bool)
    (old new : List AppliedRow) (machine : Q) : Type 0 where
  pub queue : stands made.state machine
  pub rows : new ≡ old ++ shown_row shown index e made.fresh made.answer made.effects

-- its Raft part is sound, and it counts what its machine has applied
pub record IsSound {Q L : Type 0} (log : L → LogState) (index_of : Q → ℕ) (server : Server Q L) : Type 0 where
  pub raft : IsSoundRaft log server.raft
  pub applied : index_of server.machine ≡ server.applied

-- There may be no memory, or a number of the Raft part or of the queue would pass its end. The Raft part acts first.
abbrev pub IsCaused :
    {P : Type 0} → (P → Index → Entry → Applied P) → (P → Index → Entry → Type 0) → (Raft → Raft) → ServerState P → MemoryCause
    → Type 0
IsCaused step passes acts s e =
    let after = with_raft (acts s.raft) s in
    SpentOnlyWhere e NUMBER_END (IsAtEnd s.raft ⊎ PassesEnd step passes (unapplied after) after)

-- what a refused call leaves to be taken: nothing
pub record HandsNothingOut {Q L : Type 0} (log : L → LogState) (server : Server Q L) : Type 0 where
  pub raft : HandsNoMessage (server_of log server.raft)
  pub rows : server.rows.items ≡ []

-- ---- commands

-- a ready leader adds an entry behind its last one
abbrev pub IsAdded : Raft → Index → Type 0
IsAdded s index = (is_ready s ≡ true) × (index.0 ≡ last s + 1)

-- why a command isn't taken
abbrev pub IsRefused : Raft → SubmitFault → Type 0
IsRefused s (NotLeader hint) = (is_ready s ≡ false) × (hint ≡ s.leader)
IsRefused s (Memory e) = (is_ready s ≡ true) × IsCausedRaft s e

-- a server that isn't ready stays, and one that had no memory hands nothing out
abbrev pub IsLeftBy : {Q L : Type 0} → (L → LogState) → Server Q L → Server Q L → SubmitFault → Type 0
IsLeftBy log old new (NotLeader hint) = new ≡ old
IsLeftBy log old new (Memory e) = HandsNothingOut log new
