-- What a group's code keeps, as the definition of a group has it.
use Rattle.std.specs.Prelude.{◌≡◌, ◌+◌, ◌<◌, ◌≤◌, ◌^◌, ◌++◌, ⊤, ℕ, true, List, length, take, All, Option, Some, None, slice_get}
use Rattle.qq_entry.specs.declared.command.Entry.{Entry}
use Rattle.qq_log.specs.Log.{LogState}
use Rattle.qq_log.specs.Stable.{no_snapshot, stable}
use Rattle.qq_log.specs.Writable.{MayWrite}
use Rattle.qq_log.specs.declared.limits.TheConstants.{NODE_LIMIT}
use Rattle.qq_log.specs.declared.op.Op.{Op}
use Rattle.qq_raft_core.specs.Ends.{IsSendable}
use Rattle.qq_raft_core.specs.Raft.{server_of}
use Rattle.qq_raft_core.specs.Undone.{Held, held_after, held_by, leads_back, newest, stable_of}
use Rattle.qq_raft_core.specs.declared.lanes.Lanes.{Lanes}
use Rattle.qq_raft_core.specs.declared.undo.Undo.{Undo}
use Rattle.qq_raft_msg.specs.Rpc.{IsNode}
use Rattle.qq_raft.specs.Stands.{IsSound as IsSoundServer}
use Rattle.qq_raft.specs.declared.server.Server.{Server}
use Rattle.qq_raft_model.specs.Group.{Event, Group as GroupState, Seat as SeatState, group_after}
use Rattle.qq_raft_model.specs.Promises.{AreDistinct, IsOpened}
use Rattle.qq_group.specs.declared.group.Group.{Group}
use Rattle.qq_group.specs.declared.seat.Seat.{Seat}

-- ---- seats

abbrev pub server_by : {Q L : Type 0} → Option (Seat Q L) → Option (Server Q L)
server_by None = None
server_by (Some seat) = seat.server

-- the server of a member, None while it is down
abbrev pub server_at : {Q L : Type 0} → ℕ → Group Q L → Option (Server Q L)
server_at k group = server_by (slice_get group.seats.items k)

-- after each of these ops from one number on its log is to hold what the undos lead back to
abbrev pub LeadsTo : ℕ → List Op → List Undo → Held → Type 0
LeadsTo noticed ops us h =
    (n : ℕ) → noticed ≤ n → n ≤ length ops → stable (take n ops) ≡ Some (stable_of (held_after n us h))

-- what a member's log was handed, how much of that was noticed, and what the rest may have left of it
pub record KnowsLog {Q L : Type 0} (state : SeatState) (seat : Seat Q L) (ops : List Op) (us : List Undo) (h : Held)
    : Type 0 where
  pub noticed : state.noticed ≡ seat.noticed
  pub handed : length state.ops ≡ seat.handed
  pub leads : LeadsTo state.noticed ops us h

-- a server has made these changes of its log
pub record HasMade (ops : List Op) (h : Held) : Type 0 where
  pub count : h.op ≡ length ops
  pub is : stable ops ≡ Some (stable_of h)

-- of a member that is down its last server has left it
abbrev pub KnowsLeft : {Q L : Type 0} → (L → LogState) → SeatState → Seat Q L → Option (Lanes L) → Type 0
KnowsLeft log state seat None = ⊥
KnowsLeft log state seat (Some lanes) = KnowsLog state seat state.ops lanes.undos.items (newest log lanes)

-- or it may be unknown
abbrev pub IsSeatBy : {Q L : Type 0} → (L → LogState) → SeatState → Seat Q L → Option (Server Q L) → Type 0
IsSeatBy log state seat None =
    (state.server ≡ None) × (seat.known ≡ true → KnowsLeft log state seat seat.left)
IsSeatBy log state seat (Some s) =
    (state.server ≡ Some (server_of log s.raft))
    × KnowsLog state seat (state.ops ++ s.raft.ops.items) s.raft.undos.items (held_by log s.raft)
    × (seat.noticed ≡ s.raft.noticed) × HasMade (state.ops ++ s.raft.ops.items) (held_by log s.raft)

abbrev pub IsSeat : {Q L : Type 0} → (L → LogState) → SeatState → Option (Seat Q L) → Type 0
IsSeat log state None = state.server ≡ None
IsSeat log state (Some seat) = IsSeatBy log state seat seat.server

-- ---- groups

-- A group stands for a state of the definition. Of what the logs were handed first it may know only what that comes to.
pub record Represents {Q L : Type 0} (log : L → LogState) (g : GroupState) (group : Group Q L) : Type 0 where
  pub queue : g.queue ≡ group.queue
  pub nodes : g.nodes ≡ group.nodes.items
  pub bag : g.bag ≡ group.bag
  pub audit : g.audit ≡ group.audit.items
  pub seats : (k : ℕ) → IsSeat log (g.seat k) (slice_get group.seats.items k)

-- events lead to it, of a group whose nodes differ and that was opened over logs that support an audit
pub record IsReached (g : GroupState) : Type 0 where
  pub start : GroupState
  pub whole : List Entry
  pub distinct : AreDistinct start.nodes
  pub opened : IsOpened start whole
  pub events : List Event
  pub is : g ≡ group_after start events

-- ---- what each call asks for and gives back

-- a machine stands for some state
abbrev pub HasState : {P Q : Type 0} → (P → Q → Type 0) → Q → Type 0
HasState {P} stands machine = (state : P) × stands state machine

-- a server that is up
pub record IsServing {P Q L : Type 0} (stands : P → Q → Type 0) (log : L → LogState) (index_of : Q → ℕ)
    (server : Server Q L) : Type 0 where
  pub sound : IsSoundServer log index_of server
  pub state : HasState stands server.machine

abbrev pub IsServed :
    {P Q L : Type 0} → (P → Q → Type 0) → (L → LogState) → (Q → ℕ) → Option (Server Q L) → Type 0
IsServed stands log index_of None = ⊤
IsServed stands log index_of (Some server) = IsServing stands log index_of server

abbrev pub IsReturned : Option Op → Type 0
IsReturned None = ⊤
IsReturned (Some op) = MayWrite op

abbrev pub HasReturned : {Q L : Type 0} → Option (Seat Q L) → Type 0
HasReturned None = ⊤
HasReturned (Some seat) = IsReturned seat.returned

-- what a server has left leads back from each of its last changes
abbrev pub IsLeft : {L : Type 0} → (L → LogState) → Option (Lanes L) → Type 0
IsLeft log None = ⊤
IsLeft log (Some lanes) =
    ((log lanes.log).base ≡ no_snapshot)
    × (leads_back lanes.op lanes.undos.items (log lanes.log).entries ≡ true)

abbrev pub HasLeft : {Q L : Type 0} → (L → LogState) → Option (Seat Q L) → Type 0
HasLeft log None = ⊤
HasLeft log (Some seat) = IsLeft log seat.left

-- its servers are sound, what is on its way may be sent, and there is a seat for each node
pub record IsSound {P Q L : Type 0} (stands : P → Q → Type 0) (log : L → LogState) (index_of : Q → ℕ)
    (group : Group Q L) : Type 0 where
  pub servers : (k : ℕ) → IsServed stands log index_of (server_at k group)
  pub returned : (k : ℕ) → HasReturned (slice_get group.seats.items k)
  pub left : (k : ℕ) → HasLeft log (slice_get group.seats.items k)
  pub bag : All IsSendable group.bag
  pub nodes : All IsNode group.nodes.items
  pub count : length group.nodes.items < 2 ^ 32
  pub seats : length group.seats.items ≡ NODE_LIMIT + 1
