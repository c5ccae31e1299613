-- One queue of a cluster as its code keeps it, and what each call does.
use Rattle.std.specs.Prelude.{◌≡◌, ◌⊎◌, ℕ, List, [], ◌∷◌, ◌++◌, Bool, Option, Some, None, is_some, slice_get, unwrap_or}
use Rattle.qq_base.specs.declared.ids.NodeId.{NodeId}
use Rattle.qq_base.specs.declared.memory.Memory.{Memory}
use Rattle.qq_base.specs.declared.memory.Memory.TheVariants.{Want}
use Rattle.qq_entry.specs.declared.command.Command.{Command}
use Rattle.qq_entry.specs.declared.command.Unstamped.{Unstamped}
use Rattle.qq_entry.specs.declared.queue.QueueArgs.{QueueArgs}
use Rattle.qq_log.specs.declared.op.Op.{Op}
use Rattle.qq_raft_model.specs.Group.{Group as GroupState}
use Rattle.qq_raft_model.specs.State.{Server}
use Rattle.qq_group.specs.Group.{IsReached, server_at}
use Rattle.qq_group.specs.Opening.{IsAllDown}
use Rattle.qq_group.specs.Reads.{leader_of}
use Rattle.qq_group.specs.declared.event.Event.TheVariants.{Submit}
use Rattle.qq_session.specs.Publishing.{Numbers, HasHandCause, next_command, open_commands}
use Rattle.qq_session.specs.declared.publishing.HandFault.TheVariants as faults
use Rattle.qq_cluster_model.specs.Queue.{Queue, Event, begin, happens, said, submits}
use Rattle.qq_session.specs.declared.shown.Shown.{Shown}
use Rattle.qq_queue.specs.Members.{AreSound, Member, Members, IsGroupOf, IsStepCaused, Makes, number_of, own_log}
use Rattle.qq_queue.specs.Sessions.{Standings, clients_of, numbers_of, present}
use Rattle.qq_queue.specs.declared.cluster_queue.ClusterQueue.{ClusterQueue}

-- how many of the ops that each node's log was handed a sync has kept
abbrev pub count_at : List ℕ → ℕ → ℕ
count_at counts k = unwrap_or (slice_get counts k) 0

-- a queue stands for this one of a cluster, where the sessions stand so
pub record Stands (sessions : Standings) (d : ClusterQueue) (q : Queue) : Type 0 where
  pub args : q.args ≡ d.args
  pub clients : q.clients ≡ clients_of sessions (numbers_of d.publishers)
  pub consumers : q.consumers ≡ d.consumers
  pub seats : q.seats ≡ d.seats
  pub untold : q.untold ≡ d.untold
  pub group : IsGroupOf d.args q.group d.group
  pub synced : (k : ℕ) (s : Member) → server_at k d.group ≡ Some s → q.synced k ≡ count_at d.synced.each k

-- whatever happens to it, it is the same queue
pub record IsSameQueue (old new : ClusterQueue) : Type 0 where
  pub name_is : new.name ≡ old.name
  pub args_is : new.args ≡ old.args
  pub nodes_is : new.group.nodes ≡ old.group.nodes

-- ---- what a call does

-- whichever queue it stood for, it stands for what an event makes of that, and what that shows goes after what was shown
abbrev pub Does : Event → Standings → ClusterQueue → ClusterQueue → List Shown → List Shown → Type 0
Does event sessions old new before after =
    (q : Queue) → Stands sessions old q → Stands sessions new (happens q event) × (after ≡ before ++ said q event)

-- the same however the sessions stand
abbrev pub DoesAlways : Event → ClusterQueue → ClusterQueue → List Shown → List Shown → Type 0
DoesAlways event old new before after = (sessions : Standings) → Does event sessions old new before after

-- the same, and nothing is shown
abbrev pub Becomes : Event → ClusterQueue → ClusterQueue → Type 0
Becomes event old new =
    (sessions : Standings) (q : Queue) → Stands sessions old q
    → Stands sessions new (happens q event) × (said q event ≡ [])

-- ---- why an error came

-- there was no memory, or the leader refused the command
abbrev pub IsOfferCaused : Option NodeId → Command → Members → Memory → Type 0
IsOfferCaused None command group e = e ≡ Want
IsOfferCaused (Some node) command group e = IsStepCaused (Submit node 0 command) group e

-- the session had no number, or the leader refused its command
abbrev pub IsSubmitCaused : ℕ → Unstamped → ClusterQueue → Memory → Type 0
IsSubmitCaused session body d e =
    let numbers : Numbers = numbers_of d.publishers session in
    HasHandCause (faults.Memory e) numbers
    ⊎ IsOfferCaused (leader_of own_log d.group) (next_command body numbers) d.group e

-- the leader refused one of the commands, which all before it had reached
pub record HasRefused (given : List Command) (d : ClusterQueue) (e : Memory) : Type 0 where
  pub before : List Command
  pub command : Command
  pub behind : List Command
  pub is : given ≡ before ++ command ∷ behind
  pub group : Members
  pub made : Makes (submits (number_of (leader_of own_log d.group)) before) d.group group
  pub sound : AreSound group
  pub cause : IsOfferCaused (leader_of own_log d.group) command group e

abbrev pub IsResendCaused : ℕ → ClusterQueue → Memory → Type 0
IsResendCaused session d e = (e ≡ Want) ⊎ HasRefused (open_commands (numbers_of d.publishers session)) d e

-- ---- what is told of it

-- of whichever queue it stands for
abbrev pub OfItsQueue : ClusterQueue → (Queue → Type 0) → Type 0
OfItsQueue d Holds = (sessions : Standings) (q : Queue) → Stands sessions d q → Holds q

abbrev pub is_up_at : ℕ → Queue → Bool
is_up_at k q = is_some (q.group.seat k).server

-- the ops that a member has handed out, and its node's log wasn't given
abbrev pub waiting_ops : Option Server → List Op
waiting_ops None = []
waiting_ops (Some s) = s.ops

-- ---- how it begins

-- no session was muted or has ended
abbrev pub all_present : Standings
all_present = λ session. present

-- With the arguments and on the nodes of a group whose members are down, a queue stands for one that begins with that.
abbrev pub Opens : QueueArgs → List NodeId → ClusterQueue → Type 0
Opens args nodes d =
    (g : GroupState) → IsReached g → IsAllDown args.queue nodes [] g → Stands all_present d (begin args g)
