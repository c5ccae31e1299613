-- Groups that are opened over the disks of their members.
use Rattle.std.specs.Prelude.{◌≡◌, ◌+◌, ◌<◌, ⊤, ℕ, Bool, false, not, List, [], ◌∷◌, length, All, Option, Some, None, true, min, nat_eq, option_map, slice_get}
use Rattle.std.specs.List.{AllByRecursion, count_by, list_any}
use Rattle.qq_base.specs.declared.ids.NodeId.{NodeId}
use Rattle.qq_base.specs.declared.ids.QueueId.{QueueId}
use Rattle.qq_base.specs.declared.memory.Memory.TheVariants.{Want}
use Rattle.qq_entry.specs.declared.command.Entry.{Entry}
use Rattle.qq_log.specs.Log.{LogState}
use Rattle.qq_log.specs.Stable.{no_snapshot}
use Rattle.qq_log.specs.declared.limits.TheConstants.{NODE_LIMIT}
use Rattle.qq_raft_core.specs.Raft.{IsWithinEnds}
use Rattle.qq_raft_msg.specs.Rpc.{IsNode}
use Rattle.qq_raft_protocol.specs.World.{Lane}
use Rattle.qq_raft.specs.declared.server.Server.{Server}
use Rattle.qq_raft_model.specs.Group.{Event, Group as GroupState, group_after, has_node}
use Rattle.qq_raft_model.specs.Group.Event.{Restart}
use Rattle.qq_raft_model.specs.Refines.{number}
use Rattle.qq_group.specs.Group.{HasState, Represents, server_at}
use Rattle.qq_group.specs.Restarts.{HasStarted, IsFound, is_known}
use Rattle.qq_group.specs.declared.group.Group.{Group}
use Rattle.qq_group.specs.declared.opening.GroupFault.{GroupFault}
use Rattle.qq_group.specs.declared.opening.GroupFault.TheVariants.{Short, Memory}
use Rattle.qq_group.specs.declared.seat.Seat.{Seat}

-- ---- groups without servers

-- a member that is down, and of whose log nothing is known
pub record IsEmpty {Q L : Type 0} (seat : Seat Q L) : Type 0 where
  pub server : seat.server ≡ None
  pub unknown : seat.known ≡ false
  pub left : seat.left ≡ None
  pub returned : seat.returned ≡ None

pub record AreEmpty {Q L : Type 0} (seats : List (Seat Q L)) : Type 0 where
  pub each : All IsEmpty seats
  pub count : length seats ≡ NODE_LIMIT + 1

pub record IsOpened {Q L : Type 0} (queue : QueueId) (nodes : List NodeId) (audit : List Entry)
    (group : Group Q L) : Type 0 where
  pub queue_is : group.queue ≡ queue
  pub nodes_is : group.nodes.items ≡ nodes
  pub seats : AreEmpty group.seats.items
  pub bag : group.bag ≡ []
  pub audit_is : group.audit.items ≡ audit

-- all members are down, and nothing is on its way
pub record IsAllDown (queue : QueueId) (nodes : List NodeId) (audit : List Entry) (g : GroupState) : Type 0 where
  pub queue_is : g.queue ≡ queue
  pub nodes_is : g.nodes ≡ nodes
  pub seats : (k : ℕ) → (g.seat k).server ≡ None
  pub bag : g.bag ≡ []
  pub audit_is : g.audit ≡ audit

-- the same of one member of a group
abbrev pub IsFresh : {Q L : Type 0} → Group Q L → ℕ → Type 0
IsFresh group k = (server_at k group ≡ None) × (is_known (slice_get group.seats.items k) ≡ false)

-- ---- who is named

-- a node, and the machine and the log that it starts with, None where its disk failed
abbrev pub Start : Type 0 → Type 0 → Type 0
Start Q L = NodeId × Option (Q × L)

abbrev pub is_named : {Q L : Type 0} → NodeId → List (Start Q L) → Bool
is_named node starts = list_any (λ (s : Start _ _). nat_eq s.0.0 node.0) starts

-- how many members aren't
abbrev pub missing : {Q L : Type 0} → List NodeId → List (Start Q L) → ℕ
missing nodes starts = count_by (λ (node : NodeId). not (is_named node starts)) nodes

-- members aren't named, or there is no memory
abbrev pub IsOpeningCaused : {Q L : Type 0} → List NodeId → List (Start Q L) → GroupFault → Type 0
IsOpeningCaused nodes starts (Short members) =
    (0 < missing nodes starts) × (members ≡ min (missing nodes starts) 255)
IsOpeningCaused nodes starts (Memory e) = (missing nodes starts ≡ 0) × (e ≡ Want)

-- a member isn't named
abbrev pub IsUnnamed : {Q L : Type 0} → List (Start Q L) → ℕ → Type 0
IsUnnamed starts k = AllByRecursion (λ (s : Start _ _). s.0.0 ≡ k → ⊥) starts

-- each is named once at most
abbrev pub AreApart : {Q L : Type 0} → List (Start Q L) → Type 0
AreApart [] = ⊤
AreApart (s ∷ starts) = IsUnnamed starts s.0.0 × AreApart starts

-- ---- what each starts with

-- a whole log that a server takes, and a machine that has applied nothing
abbrev pub IsReady :
    {P Q L : Type 0} → (P → Q → Type 0) → (L → LogState) → (Q → ℕ) → Option (Q × L) → Type 0
IsReady stands log index_of None = ⊤
IsReady stands log index_of (Some s) =
    ((log s.1).base ≡ no_snapshot) × IsWithinEnds (log s.1) × (index_of s.0 ≡ 0) × HasState stands s.0

pub record IsStart {P Q L : Type 0} (stands : P → Q → Type 0) (log : L → LogState) (index_of : Q → ℕ)
    (nodes : List NodeId) (s : Start Q L) : Type 0 where
  pub node : IsNode s.0
  pub member : has_node s.0.0 nodes ≡ true
  pub ready : IsReady stands log index_of s.1

-- ---- what becomes of the group

abbrev pub restarts_by : {Q L : Type 0} → (L → LogState) → ℕ → Option (Q × L) → List Event → List Event
restarts_by log k None events = events
restarts_by log k (Some s) events = Restart k (log s.1).op ∷ events

-- each that has a log restarts
abbrev pub restarts_of : {Q L : Type 0} → (L → LogState) → List (Start Q L) → List Event
restarts_of log [] = []
restarts_of log (s ∷ starts) = restarts_by log s.0.0 s.1 (restarts_of log starts)

abbrev pub IsFoundBy : {Q L : Type 0} → (L → LogState) → GroupState → ℕ → Option (Q × L) → Type 0
IsFoundBy log g k None = ⊤
IsFoundBy log g k (Some s) = IsFound g k (log s.1)

-- each log is what the ops that it was handed come to
abbrev pub AreFound : {Q L : Type 0} → (L → LogState) → GroupState → List (Start Q L) → Type 0
AreFound log g starts = AllByRecursion (λ (s : Start _ _). IsFoundBy log g s.0.0 s.1) starts

-- whichever state the group stood for, it stands for what the restarts of these make of it
abbrev pub Starts : {Q L : Type 0} → (L → LogState) → List (Start Q L) → Group Q L → Group Q L → Type 0
Starts log starts old new =
    (g : GroupState) → Represents log g old → AreFound log g starts
    → Represents log (group_after g (restarts_of log starts)) new

-- a group over disks stands for what the restarts make of members that were down, and of which each log was found
abbrev pub OpensOver :
    {Q L : Type 0} → (L → LogState) → QueueId → List NodeId → List Entry → List (Start Q L) → Group Q L → Type 0
OpensOver log queue nodes audit starts group =
    (g : GroupState) → IsAllDown queue nodes audit g → AreFound log g starts
    → Represents log (group_after g (restarts_of log starts)) group

-- a member has started with this machine, or is down where its disk failed
abbrev pub HasStartedBy : {P Q L : Type 0} → (P → Q → Type 0) → Option (Q × L) → Option (Server Q L) → Type 0
HasStartedBy stands None server = server ≡ None
HasStartedBy stands (Some s) server = HasStarted stands s.0 server

abbrev pub HaveStarted : {P Q L : Type 0} → (P → Q → Type 0) → List (Start Q L) → Group Q L → Type 0
HaveStarted stands starts group =
    AllByRecursion (λ (s : Start _ _). HasStartedBy stands s.1 (server_at s.0.0 group)) starts

-- and the others are down
abbrev pub AreDown : {Q L : Type 0} → List (Start Q L) → Group Q L → Type 0
AreDown starts group = (k : ℕ) → IsUnnamed starts k → server_at k group ≡ None

-- ---- logs that may be found

-- a log without ops is empty
pub record IsUnused (l : LogState) : Type 0 where
  pub term : l.term ≡ record { 0 = 0 }
  pub vote : l.vote ≡ None
  pub entries : l.entries ≡ []

-- what a log holds, as the protocol's lane
abbrev pub log_lane : LogState → Lane
log_lane l = record { op = l.op; term = l.term.0; vote = option_map number l.vote; log = l.entries }

abbrev pub IsLaneBy : {Q L : Type 0} → (L → LogState) → Lane → Option (Q × L) → Type 0
IsLaneBy log lane None = ⊤
IsLaneBy log lane (Some s) = log_lane (log s.1) ≡ lane

-- each log that is given is its member's lane
abbrev pub AreLanes : {Q L : Type 0} → (L → LogState) → (ℕ → Lane) → List (Start Q L) → Type 0
AreLanes log lane starts = AllByRecursion (λ (s : Start _ _). IsLaneBy log (lane s.0.0) s.1) starts

abbrev pub MayBeFound : LogState → Type 0
MayBeFound l = l.op ≡ 0 → IsUnused l

abbrev pub MayBeFoundBy : {Q L : Type 0} → (L → LogState) → Option (Q × L) → Type 0
MayBeFoundBy log None = ⊤
MayBeFoundBy log (Some s) = MayBeFound (log s.1)
