-- What a call does to each state that the group stands for.
use Rattle.std.specs.Prelude.{◌≡◌, ◌++◌, ℕ, List, [], length, take, drop, Option, Some, None, slice_get}
use Rattle.qq_base.specs.Fronts.{IsFront}
use Rattle.qq_log.specs.Log.{LogState}
use Rattle.qq_entry.specs.declared.command.Entry.{Entry}
use Rattle.qq_raft_msg.specs.declared.rpc.Rpc.{Rpc}
use Rattle.qq_raft_model.specs.Server.{Input, step}
use Rattle.qq_raft_model.specs.State.{Server as RaftState}
use Rattle.qq_raft_core.specs.Raft.{server_of}
use Rattle.qq_raft.specs.Stands.{state_of}
use Rattle.qq_raft.specs.Step.{ServerState}
use Rattle.qq_raft.specs.declared.row.AppliedRow.{AppliedRow}
use Rattle.qq_raft.specs.declared.server.Server.{Server}
use Rattle.qq_raft_model.specs.Group.{Group as GroupState, feed}
use Rattle.qq_group.specs.Group.{Represents, IsReached}
use Rattle.qq_group.specs.declared.group.Group.{Group}

-- whichever state it stood for, it stands for what this makes of it
abbrev pub Makes : {Q L : Type 0} → (L → LogState) → (GroupState → GroupState) → Group Q L → Group Q L → Type 0
Makes log f old new = (g : GroupState) → Represents log g old → Represents log (f g) new

-- whichever reached state it stood for, it stands for what this makes of it
abbrev pub Follows : {Q L : Type 0} → (L → LogState) → (GroupState → GroupState) → Group Q L → Group Q L → Type 0
Follows log f old new = (g : GroupState) → IsReached g → Represents log g old → Represents log (f g) new

-- an input reaches a server: the next state is a reached one, whose audit is no shorter
abbrev pub Feeds : {Q L : Type 0} → (L → LogState) → ℕ → Input → Group Q L → Group Q L → Type 0
Feeds log k input old new =
    (g : GroupState) → Represents log g old → IsReached (feed k input g) → IsFront g.audit (feed k input g).audit
    → Represents log (feed k input g) new

-- ---- the servers with their queues

-- a server behind a step, whose messages and rows were handed out, with its queue, and the rows that it has shown
pub record Shows {P Q L : Type 0} (stands : P → Q → Type 0) (log : L → LogState) (made : ServerState P)
    (server : Server Q L) (rows : List AppliedRow) : Type 0 where
  pub raft : server_of log server.raft ≡ record made.raft { out = [] }
  pub queue : stands made.queue server.machine
  pub applied : server.applied ≡ made.applied
  pub rows_are : rows ≡ made.rows
  pub none : server.rows.items ≡ []

-- a server has made this step, and shown the rows of it, whichever state of the queue its machine stood for
abbrev pub HasShown :
    {P Q L : Type 0} → (P → Q → Type 0) → (L → LogState) → (ServerState P → ServerState P) → Server Q L
    → Option (Server Q L) → List AppliedRow → Type 0
HasShown stands log f old None rows = ⊥
HasShown {P} stands log f old (Some new) rows =
    (queue : P) → stands queue old.machine → Shows stands log (f (state_of log queue old)) new rows

-- a member is as it was, and shows nothing
abbrev pub ShowsNothing : {Q L : Type 0} → Option (Server Q L) → Option (Server Q L) → List AppliedRow → Type 0
ShowsNothing old new rows = (new ≡ old) × (rows ≡ [])

-- a member that is down shows nothing
abbrev pub HasShownBy :
    {P Q L : Type 0} → (P → Q → Type 0) → (L → LogState) → (ServerState P → ServerState P) → Option (Server Q L)
    → Option (Server Q L) → List AppliedRow → Type 0
HasShownBy stands log f None new rows = ShowsNothing None new rows
HasShownBy stands log f (Some old) new rows = HasShown stands log f old new rows

-- an op that leaves a server leaves its queue as it was, and nothing was applied
abbrev pub KeepsQueue : {Q L : Type 0} → Option (Server Q L) → Option (Server Q L) → Type 0
KeepsQueue None new = new ≡ None
KeepsQueue (Some old) None = ⊥
KeepsQueue (Some old) (Some new) = new ≡ record old { raft = new.raft }

-- all members but one are as they were
abbrev pub OthersStay : {Q L : Type 0} → ℕ → Group Q L → Group Q L → Type 0
OthersStay k old new =
    (q : ℕ) → (q ≡ k → ⊥) → slice_get new.seats.items q ≡ slice_get old.seats.items q

-- ---- the bag and the audit

-- the bag and the audit are these
pub record AddsNothing {Q L : Type 0} (bag : List Rpc) (audit : List Entry) (new : Group Q L) : Type 0 where
  pub bag_is : new.bag ≡ bag
  pub audit_is : new.audit.items ≡ audit

-- what a server sends goes behind this bag, and what it knows to be committed behind this audit
pub record Adds {Q L : Type 0} (bag : List Rpc) (audit : List Entry) (made : RaftState) (new : Group Q L) : Type 0
  where
    pub bag_is : new.bag ≡ bag ++ made.out
    pub audit_is : new.audit.items ≡ audit ++ drop (length audit) (take made.commit made.log)

-- a server that is up makes this step
abbrev pub AddsStep :
    {Q L : Type 0} → (L → LogState) → Input → List Rpc → List Entry → Option (Server Q L) → Group Q L → Type 0
AddsStep log input bag audit None new = AddsNothing bag audit new
AddsStep log input bag audit (Some s) new = Adds bag audit (step (server_of log s.raft) input) new
