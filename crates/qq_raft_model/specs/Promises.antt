-- What a group promises.
use Rattle.std.specs.Prelude.{◌≡◌, ◌⊎◌, ◌≤◌, ◌<◌, ℕ, true, List, [], ◌∷◌, ◌++◌, length, take, map, Option, Some, None}
use Rattle.qq_base.specs.Fronts.{IsFront}
use Rattle.qq_base.specs.declared.ids.NodeId.{NodeId}
use Rattle.qq_base.specs.declared.ids.Term.{Term}
use Rattle.qq_entry.specs.declared.command.Command.{Command}
use Rattle.qq_entry.specs.declared.command.Entry.{Entry}
use Rattle.qq_log.specs.declared.op.Op.{Op}
use Rattle.qq_log.specs.Stable.{Stable, stable}
use Rattle.qq_raft_protocol.specs.Facts.{add, In}
use Rattle.qq_raft_protocol.specs.Moves.{longer}
use Rattle.qq_raft_protocol.specs.Safe.{IsSupported}
use Rattle.qq_raft_protocol.specs.World.{Lane}
use Rattle.qq_raft_model.specs.Handing.{lane_in, plain_state}
use Rattle.qq_raft_model.specs.Refines.{number}
use Rattle.qq_raft_model.specs.Server.{is_ready}
use Rattle.qq_raft_model.specs.State.{Server}
use Rattle.qq_raft_model.specs.Group.{Event, Group, group_after}
use Rattle.qq_raft_model.specs.Group.Event.{Add, Submit}

abbrev pub AreDistinct : List NodeId → Type 0
AreDistinct [] = Unit {0}
AreDistinct (n ∷ nodes) = ((m : NodeId) → In m nodes → m.0 ≡ n.0 → ⊥) × AreDistinct nodes

abbrev pub members_of : List NodeId → List ℕ
members_of nodes = map number nodes

abbrev pub IsUp : Group → ℕ → Server → Type 0
IsUp g k s = (g.seat k).server ≡ Some s

-- A lane that a crash of the member may leave: what the ops of its log come to, up to one that isn't older than what
-- was noticed.
pub record IsLeft (g : Group) (k : ℕ) (lane : Lane) : Type 0 where
  pub upto : ℕ
  pub noticed : (g.seat k).noticed ≤ upto
  pub handed : upto ≤ length (g.seat k).ops
  pub state : Stable
  pub is : stable (take upto (g.seat k).ops) ≡ Some state
  pub lane_is : lane ≡ lane_in state

-- ---- what logs that are left have

-- an entry of a later term
abbrev pub HasLater : ℕ → List Entry → Type 0
HasLater c log = (a : List Entry) × (e : Entry) × (c < e.term.0) × IsFront (add a e) log

-- ---- a group that is opened over logs

-- ops come to a state that has no snapshot and no segment
pub record IsPlain (n : ℕ) (ops : List Op) : Type 0 where
  pub term : Term
  pub vote : Option NodeId
  pub log : List Entry
  pub is : stable ops ≡ Some (plain_state n term vote log)

-- all members are down, and their logs are plain, whatever a crash leaves of them; nobody else has a log
pub record IsDown (g : Group) : Type 0 where
  pub down : (k : ℕ) → (g.seat k).server ≡ None
  pub bag : g.bag ≡ []
  pub noticed : (k : ℕ) → (g.seat k).noticed ≤ length (g.seat k).ops
  pub plain : (k n : ℕ) → (g.seat k).noticed ≤ n → n ≤ length (g.seat k).ops → IsPlain n (take n (g.seat k).ops)
  pub others : (k : ℕ) → (In k (members_of g.nodes) → ⊥) → (g.seat k).ops ≡ []

-- and the logs support an audit, whatever a crash leaves of them
pub record IsOpened (g : Group) (whole : List Entry) : Type 0 where
  pub down : IsDown g
  pub supported : IsSupported (members_of g.nodes) (IsLeft g) whole
  pub audit : IsFront g.audit whole

-- the audit that logs supported at the start, or what has been known to be committed since, where that is longer
abbrev pub whole_audit : List Entry → Group → List Entry
whole_audit whole g = longer whole g.audit

-- ---- where an entry comes from

-- a log had it behind these at the start
pub record WasLeft (g : Group) (a : List Entry) (e : Entry) : Type 0 where
  pub node : ℕ
  pub member : In node (members_of g.nodes)
  pub lane : Lane
  pub left : IsLeft g node lane
  pub front : IsFront (add a e) lane.log

-- an event is that a command reaches a server
abbrev pub Gives : ℕ → ℕ → Command → Event → Type 0
Gives node time command event = (event ≡ Submit node time command) ⊎ (event ≡ Add node time command)

-- one of the events was that its command reached a ready leader of its term, whose log was these
pub record IsSubmitted (g : Group) (events : List Event) (a : List Entry) (e : Entry) : Type 0 where
  pub first : List Event
  pub node : ℕ
  pub event : Event
  pub gives : Gives node e.time e.command event
  pub rest : List Event
  pub is : events ≡ first ++ event ∷ rest
  pub server : Server
  pub up : IsUp (group_after g first) node server
  pub ready : is_ready server ≡ true
  pub term : e.term ≡ server.term
  pub log : server.log ≡ a
