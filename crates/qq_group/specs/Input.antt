-- What comes to a server of a group.
use Rattle.std.specs.Prelude.{◌≡◌, ◌⊎◌, ◌+◌, ◌<◌, ⊤, true, List, length, Option, Some, None, if◌then◌else◌}
use Rattle.qq_base.specs.declared.ids.Index.{Index}
use Rattle.qq_base.specs.Causes.{SpentOnlyWhere}
use Rattle.qq_base.specs.declared.memory.Memory.{Memory}
use Rattle.qq_base.specs.declared.memory.Memory.TheVariants.{Want}
use Rattle.qq_raft_msg.specs.declared.bag.TheConstants.{BAG_LIMIT}
use Rattle.qq_raft_msg.specs.declared.rpc.Rpc.{Rpc}
use Rattle.qq_entry.specs.Range.{IsCommand, HasContent}
use Rattle.qq_entry.specs.declared.command.Entry.{Entry}
use Rattle.qq_log.specs.Log.{LogState}
use Rattle.qq_raft_core.specs.Fits.{fits}
use Rattle.qq_raft_core.specs.Raft.{server_of, IsCaused as IsRaftCaused}
use Rattle.qq_raft_msg.specs.Queue.{Applied}
use Rattle.qq_raft_msg.specs.Rpc.{IsWritable}
use Rattle.qq_raft_model.specs.Server.{Input as Event, is_ready, step as step_raft, receive as receive_raft, notice as notice_raft}
use Rattle.qq_raft_model.specs.State.{Server as Raft}
use Rattle.qq_raft.specs.Stands.{IsCaused, state_of}
use Rattle.qq_raft.specs.Step.{ServerState, add, flush, tick, submit, receive, notice}
use Rattle.qq_raft.specs.declared.server.Server.{Server}
use Rattle.qq_group.specs.declared.input.Input.{Input}
use Rattle.qq_group.specs.declared.input.Input.TheVariants.{Tick, Receive, Submit, Add, Flush, Notice}
use Rattle.qq_group.specs.declared.outcome.Outcome.{Outcome}
use Rattle.qq_group.specs.declared.outcome.Outcome.TheVariants.{Done, Down, NotLeader}
use Rattle.qq_group.specs.declared.group.Group.{Group}

-- as the definition of a server has it
abbrev pub input_of : Input → Event
input_of Tick = Event.Tick
input_of (Receive rpc) = Event.Receive rpc
input_of (Submit time command) = Event.Submit time command
input_of (Add time command) = Event.Add time command
input_of Flush = Event.Flush
input_of (Notice op) = Event.Notice op

-- what a server asks of it
abbrev pub MayCome : Input → Raft → Type 0
MayCome Tick s = ⊤
MayCome (Receive rpc) s = IsWritable rpc × (fits s rpc ≡ true)
MayCome (Submit time command) s = IsCommand command × HasContent command
MayCome (Add time command) s = IsCommand command × HasContent command
MayCome Flush s = ⊤
MayCome (Notice op) s = ⊤

-- what it makes of a server with its queue
abbrev pub acts : {P : Type 0} → (P → Index → Entry → Applied P) → Input → ServerState P → ServerState P
acts step Tick = tick
acts step (Receive rpc) = receive step rpc
acts step (Submit time command) = submit time command
acts step (Add time command) = add time command
acts step Flush = flush
acts step (Notice op) = notice step op

abbrev pub outcome_of : Input → Raft → Outcome
outcome_of (Submit time command) s = if is_ready s then Done else NotLeader s.leader
outcome_of (Add time command) s = if is_ready s then Done else NotLeader s.leader
outcome_of Flush s = Done
outcome_of Tick s = Done
outcome_of (Receive rpc) s = Done
outcome_of (Notice op) s = Done

-- There may be no memory, or a number of the server or of its queue would pass its end.
abbrev pub IsActCaused :
    {P Q L : Type 0} → (P → Q → Type 0) → (P → Index → Entry → Applied P) → (P → Index → Entry → Type 0)
    → (L → LogState) → Input → Server Q L → Memory → Type 0
IsActCaused stands step passes log Tick s e = IsRaftCaused (server_of log s.raft) e
IsActCaused {P} stands step passes log (Receive rpc) s e =
    (queue : P) → stands queue s.machine → IsCaused step passes (receive_raft rpc) (state_of log queue s) e
IsActCaused stands step passes log (Submit time command) s e = IsRaftCaused (server_of log s.raft) e
IsActCaused stands step passes log (Add time command) s e = IsRaftCaused (server_of log s.raft) e
IsActCaused stands step passes log Flush s e = e ≡ Want
IsActCaused {P} stands step passes log (Notice op) s e =
    (queue : P) → stands queue s.machine → IsCaused step passes (notice_raft op) (state_of log queue s) e

-- ---- an input of a member

abbrev pub MayReach : {Q L : Type 0} → (L → LogState) → Input → Option (Server Q L) → Type 0
MayReach log input None = ⊤
MayReach log input (Some s) = MayCome input (server_of log s.raft)

abbrev pub fed_outcome : {Q L : Type 0} → (L → LogState) → Input → Option (Server Q L) → Outcome
fed_outcome log input None = Down
fed_outcome log input (Some s) = outcome_of input (server_of log s.raft)

-- the messages that a server sends on an input
abbrev pub sent_on : Input → Raft → List Rpc
sent_on input s = (step_raft s (input_of input)).out

-- The server had a cause, or the bag would have more messages than it may.
abbrev pub IsInputCaused :
    {P Q L : Type 0} → (P → Q → Type 0) → (P → Index → Entry → Applied P) → (P → Index → Entry → Type 0)
    → (L → LogState) → Input → List Rpc → Option (Server Q L) → Memory → Type 0
IsInputCaused stands step passes log input bag None e = ⊥
IsInputCaused stands step passes log input bag (Some s) e =
    IsActCaused stands step passes log input s e
    ⊎ SpentOnlyWhere e BAG_LIMIT (BAG_LIMIT < length bag + length (sent_on input (server_of log s.raft)))

abbrev pub IsFeedCaused :
    {P Q L : Type 0} → (P → Q → Type 0) → (P → Index → Entry → Applied P) → (P → Index → Entry → Type 0)
    → (L → LogState) → Input → Group Q L → Option (Server Q L) → Memory → Type 0
IsFeedCaused stands step passes log input group o e = IsInputCaused stands step passes log input group.bag o e
