-- The group of a queue's members, each of which has the machine of parts.
use Rattle.std.specs.Prelude.{◌≡◌, ◌⊎◌, ℕ, zero, suc, false, List, [], ◌∷◌, Option, Some, None, map, flat_map, slice_get}
use Rattle.qq_base.specs.declared.ids.Index.{Index}
use Rattle.qq_base.specs.declared.ids.NodeId.{NodeId}
use Rattle.qq_base.specs.declared.ids.QueueId.{QueueId}
use Rattle.qq_base.specs.declared.memory.Memory.{Memory}
use Rattle.qq_base.specs.declared.memory.Memory.TheVariants.{Want}
use Rattle.qq_entry.specs.declared.audit.AuditRow.{AuditRow}
use Rattle.qq_entry.specs.declared.audit.Effect.{Effect}
use Rattle.qq_entry.specs.declared.command.Entry.{Entry}
use Rattle.qq_entry.specs.declared.queue.QueueArgs.{QueueArgs}
use Rattle.qq_log.specs.Log.{LogState}
use Rattle.qq_model.specs.State.{State, empty_queue, is_within_ends}
use Rattle.qq_model.specs.Step.{step}
use Rattle.qq_raft.specs.declared.row.AppliedRow.{AppliedRow}
use Rattle.qq_raft.specs.declared.server.Server.{Server}
use Rattle.qq_raft_model.specs.Group.{Event as Move, Group as GroupState, group_after}
use Rattle.qq_raft_model.specs.Group.Event.{Tick, Submit, Add, Flush, Deliver, Lose, Copy, Notice, Crash}
use Rattle.qq_raft_msg.specs.Bag.{at_place}
use Rattle.qq_raft_msg.specs.Queue.{Applied}
use Rattle.qq_queue.specs.Applied.{applied_of}
use Rattle.qq_queue.specs.StandsFor.{StandsFor}
use Rattle.qq_queue.specs.declared.machine_queue.MachineQueue.{MachineQueue}
use Rattle.qq_group.specs.Group.{IsReached, IsSound, Represents, server_at}
use Rattle.qq_group.specs.Handing.{returned_at}
use Rattle.qq_group.specs.Opening.{IsAllDown, Start}
use Rattle.qq_group.specs.Reads.{receiver_of}
use Rattle.qq_group.specs.Steps.{IsEventCaused}
use Rattle.qq_group.specs.declared.event.Event.{Event}
use Rattle.qq_group.specs.declared.event.Event.TheVariants as events
use Rattle.qq_group.specs.declared.group.Group.{Group}
use Rattle.qq_group_laws.specs.Audited.{AreAudited}
use Rattle.qq_cluster_model.specs.Queue.{rows_at, effects_at}

-- ---- the machine and the log of each member

abbrev pub queue_stands : State → MachineQueue → Type 0
queue_stands s machine = StandsFor s machine.machine

abbrev pub queue_step : State → Index → Entry → Applied State
queue_step s index entry = applied_of (step s index entry)

abbrev pub queue_passes : State → Index → Entry → Type 0
queue_passes s index entry = is_within_ends (step s index entry).state ≡ false

abbrev pub queue_applied : MachineQueue → ℕ
queue_applied machine = machine.machine.rest.applied

abbrev pub own_log : LogState → LogState
own_log log = log

abbrev pub Members : Type 0
Members = Group MachineQueue LogState

abbrev pub Member : Type 0
Member = Server MachineQueue LogState

abbrev pub AreSound : Members → Type 0
AreSound group = IsSound queue_stands own_log queue_applied group

-- ---- what they stand for

-- a member has applied what it knows to be committed, and no op was given back to it
pub record IsCurrent (k : ℕ) (s : Member) (group : Members) : Type 0 where
  pub applied : s.applied ≡ s.raft.commit
  pub kept : returned_at (slice_get group.seats.items k) ≡ None

-- A group stands for a reached state, and its members have applied what is committed to a queue of these arguments.
pub record IsGroupOf (args : QueueArgs) (g : GroupState) (group : Members) : Type 0 where
  pub reached : IsReached g
  pub represents : Represents own_log g group
  pub audited : AreAudited queue_stands queue_step (empty_queue args) group
  pub current : (k : ℕ) (s : Member) → server_at k group ≡ Some s → IsCurrent k s group

-- who is down stays so
abbrev pub StayDown : Members → Members → Type 0
StayDown old new = (k : ℕ) → server_at k old ≡ None → server_at k new ≡ None

-- whatever it stood for, it stands for what these moves make of it, and nobody is up who wasn't
abbrev pub Makes : List Move → Members → Members → Type 0
Makes moves old new =
    (args : QueueArgs) (g : GroupState) → IsGroupOf args g old
    → IsGroupOf args (group_after g moves) new × StayDown old new

-- ---- the events of the code

-- a place counts from 1, and there is no message at place 0
abbrev pub move_at : (ℕ → Move) → ℕ → List Move
move_at move zero = []
move_at move (suc at) = move at ∷ []

-- each is the same event of the definition
abbrev pub moves_of : Event → List Move
moves_of (events.Tick node) = Tick node.0 ∷ []
moves_of (events.Submit node time command) = Submit node.0 time command ∷ []
moves_of (events.Add node time command) = Add node.0 time command ∷ []
moves_of (events.Flush node) = Flush node.0 ∷ []
moves_of (events.Deliver place) = move_at Deliver place
moves_of (events.Lose place) = move_at Lose place
moves_of (events.Copy place) = move_at Copy place
moves_of (events.Notice node op) = Notice node.0 op ∷ []
moves_of (events.Crash node) = Crash node.0 ∷ []

abbrev pub number_of : Option NodeId → Option ℕ
number_of None = None
number_of (Some node) = Some node.0

-- the member whose commit an event may move
abbrev pub teller : Event → Members → Option ℕ
teller (events.Deliver place) group = number_of (receiver_of (at_place place group.bag))
teller (events.Notice node op) group = Some node.0
teller _ group = None

-- why an event is refused
abbrev pub IsStepCaused : Event → Members → Memory → Type 0
IsStepCaused event group e = IsEventCaused queue_stands queue_step queue_passes own_log event group e

-- the same of one that tells, for whose text there may be no memory either
abbrev pub IsTellingCaused : Event → Members → Memory → Type 0
IsTellingCaused event group e = (e ≡ Want) ⊎ IsStepCaused event group e

-- what stands after an error of one that tells: nothing was added to the audit, or it has happened
abbrev pub LeavesGroup : Event → Members → Members → Type 0
LeavesGroup event old new = (new.audit.items ≡ old.audit.items) ⊎ Makes (moves_of event) old new

-- ---- what is shown

abbrev pub audit_rows_of : List AppliedRow → List AuditRow
audit_rows_of rows = map (λ (r : AppliedRow). r.row) rows

abbrev pub effects_in : List AppliedRow → List Effect
effects_in rows = flat_map (λ (r : AppliedRow). r.effects) rows

-- the rows that a step has shown are those that the definition tells, and so are their effects
pub record AreTold (k : Option ℕ) (args : QueueArgs) (g h : GroupState) (rows : List AppliedRow) : Type 0 where
  pub rows_are : audit_rows_of rows ≡ rows_at k args g h
  pub effects_are : effects_in rows ≡ effects_at k args g h

abbrev pub Tells : Event → Members → List AppliedRow → Type 0
Tells event old rows =
    (args : QueueArgs) (g : GroupState) → IsGroupOf args g old
    → AreTold (teller event old) args g (group_after g (moves_of event)) rows

-- ---- how a group begins

-- a node whose member is down
abbrev pub down_start : NodeId → Start MachineQueue LogState
down_start node = (node, None)

-- a group of these nodes stands for any whose members are down, and so they are
abbrev pub OpensGroup : QueueId → List NodeId → Members → Type 0
OpensGroup queue nodes group =
    (g : GroupState) → IsReached g → IsAllDown queue nodes [] g → (args : QueueArgs) → IsGroupOf args g group
