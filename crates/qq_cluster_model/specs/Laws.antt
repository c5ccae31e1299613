-- What holds of a queue of a cluster, whatever happens to it.
use Rattle.std.specs.Prelude.{◌≡◌, ◌≤◌, ◌<◌, ℕ, List, [], ◌∷◌, ◌++◌, Bool, true, false, not, Option, Some, None, drop, length, filter_map, map, nat_eq, take, All, Contains, if◌then◌else◌}
use Rattle.std.specs.List.{list_all}
use Rattle.qq_base.specs.Fronts.{IsFront}
use Rattle.qq_base.specs.Ids.{client, same_consumer}
use Rattle.qq_base.specs.declared.ids.ConsumerId.{ConsumerId}
use Rattle.qq_entry.specs.declared.answer.Delivery.{Delivery}
use Rattle.qq_entry.specs.declared.audit.AuditRow.{AuditRow}
use Rattle.qq_entry.specs.declared.audit.Effect.TheVariants.{Deliver}
use Rattle.qq_entry.specs.declared.command.Command.{Command}
use Rattle.qq_entry.specs.declared.command.Command.TheVariants.{Down}
use Rattle.qq_entry.specs.declared.command.Entry.{Entry}
use Rattle.qq_entry.specs.declared.queue.QueueArgs.{QueueArgs}
use Rattle.qq_model.specs.Audit.{effects_of}
use Rattle.qq_model.specs.State.{empty_queue}
use Rattle.qq_raft_model.specs.Group.{Event as Move, Group}
use Rattle.qq_raft_model.specs.Group.Event.{Submit}
use Rattle.qq_raft_model.specs.Promises.{AreDistinct, IsOpened}
use Rattle.qq_raft_model.specs.Server.{is_ready}
use Rattle.qq_raft_model.specs.State.{Server}
use Rattle.qq_session.specs.Arriving.{Deed, Hands, handed}
use Rattle.qq_session.specs.Publishing.{new_numbers}
use Rattle.qq_session.specs.Deeds.{takes_of}
use Rattle.qq_session.specs.declared.shown.Shown.{Shown}
use Rattle.qq_session.specs.declared.shown.Shown.TheVariants.{Delivered, NoLeader, Taken}
use Rattle.qq_taker.specs.Seen.{seen_of}
use Rattle.qq_taker.specs.declared.taker.Seen.{Seen}
use Rattle.qq_taker.specs.declared.handed.Handed.{Handed}
use Rattle.qq_taker.specs.Seats.{taker_of}
use Rattle.qq_taker.specs.declared.seats.Seat.{Seat}
use Rattle.qq_cluster_model.specs.Queue.{Queue, Event, Attaches, Submits, Downs, Ends, acts, audit_rows, moves, happens, said, after, begin, leader, rows_told}
use Rattle.qq_cluster_model.specs.Rules.{is_ended}

-- a group with which a queue may begin: no node has two of its members, and their logs support an audit
pub record IsBegun (group : Group) : Type 0 where
  pub distinct : AreDistinct group.nodes
  pub whole : List Entry
  pub opened : IsOpened group whole

-- what events make of a queue that begins with a group
abbrev pub queue_after : QueueArgs → Group → List Event → Queue
queue_after args group events = after (begin args group) events

-- what events are to the queue's group
abbrev pub all_moves : Queue → List Event → List Move
all_moves q [] = []
all_moves q (event ∷ events) = moves q event ++ all_moves (happens q event) events

-- whatever happens next, the rows of its audit stay
abbrev pub KeepsAudit : Queue → List Event → Type 0
KeepsAudit q events = IsFront (audit_rows q) (audit_rows (after q events))

-- what is printed as a delivery is an effect of an entry of the audit
abbrev pub IsMade : Queue → Shown → Type 0
IsMade q (Delivered consumer delivery) =
    Contains (effects_of (empty_queue q.args) q.group.audit) (Deliver consumer delivery)
IsMade q (Taken number consumer delivery verdict) =
    Contains (effects_of (empty_queue q.args) q.group.audit) (Deliver consumer delivery)
IsMade q _ = Unit {0}

-- a row that a server answers: it leads and takes commands, and the row's entry is of its own term
pub record IsOwnTo (s : Server) (row : AuditRow) : Type 0 where
  pub ready : is_ready s ≡ true
  pub term : row.entry.term.0 ≡ s.term.0

-- ---- a session's commands

-- a session gives a command a number
abbrev pub hands_at : ℕ → Event → List Deed
hands_at session (Submits own body) = if nat_eq own session then Hands body ∷ [] else []
hands_at session _ = []

-- what a session does at an event: it gives a command a number, and it takes answers that aren't lost
abbrev pub deeds_at : ℕ → Queue → Event → List Deed
deeds_at session q event = hands_at session event ++ takes_of session (acts event q.clients) (rows_told q event)

abbrev pub deeds : ℕ → Queue → List Event → List Deed
deeds session q [] = []
deeds session q (event ∷ events) = deeds_at session q event ++ deeds session (happens q event) events

-- the commands that a session has given numbers, in order
abbrev pub commands_of : QueueArgs → Group → ℕ → List Event → List Command
commands_of args group session events =
    handed (new_numbers (client session) args.queue) (deeds session (begin args group) events)

-- ---- the logs

-- of what a node's log was given no more is noticed than a sync has kept
pub record CountsRise (q : Queue) (k : ℕ) : Type 0 where
  pub noticed : (q.group.seat k).noticed ≤ q.synced k
  pub synced : q.synced k ≤ length (q.group.seat k).ops

-- ---- a consumer's deliveries

abbrev pub delivery_shown : ConsumerId → Shown → Option Delivery
delivery_shown consumer (Delivered other delivery) = if same_consumer other consumer then Some delivery else None
delivery_shown consumer (Taken number other delivery verdict) =
    if same_consumer other consumer then Some delivery else None
delivery_shown consumer _ = None

-- the deliveries to a consumer that are shown, in order
abbrev pub deliveries_shown : ConsumerId → List Shown → List Delivery
deliveries_shown consumer shown = filter_map (delivery_shown consumer) shown

-- and those that wait for a taker's verdict
abbrev pub delivery_waiting : ConsumerId → Handed → Option Delivery
delivery_waiting consumer h = if same_consumer h.consumer consumer then Some h.delivery else None

abbrev pub deliveries_waiting : ConsumerId → List Handed → List Delivery
deliveries_waiting consumer waiting = filter_map (delivery_waiting consumer) waiting

-- what the taker of a number has seen
abbrev pub seen_by : ℕ → Shown → Option Seen
seen_by number (Taken other consumer delivery verdict) =
    if nat_eq other number then Some (seen_of delivery verdict) else None
seen_by number _ = None

-- the deliveries of these are so many of all, from a place on, each once and in order
pub record IsRun (seen : List Seen) (from : ℕ) (all : List Delivery) : Type 0 where
  pub ids : map (λ (one : Seen). one.id) seen
      ≡ map (λ (one : Delivery). one.id) (take (length seen) (drop from all))
  pub arrivals : map (λ (one : Seen). one.arrival) seen
      ≡ map (λ (one : Delivery). one.arrival) (take (length seen) (drop from all))

-- A command for deliveries of these ids may be given where each of them was shown; else the first one that wasn't is
-- told.
abbrev pub AreClaimed : List ℕ → List ℕ → Option ℕ → Type 0
AreClaimed ids shown None = All (Contains shown) ids
AreClaimed ids shown (Some id) =
    (before behind : List ℕ) × (ids ≡ before ++ id ∷ behind) × All (Contains shown) before × (Contains shown id → ⊥)

-- ---- the end of a session

-- a leader is handed the end of a session; without one the session is told so, and nothing else happens
pub record LeaderIsTold (session : ℕ) (q : Queue) : Type 0 where
  pub handed : (k : ℕ) → leader q.group ≡ Some k → moves q (Downs session) ≡ Submit k 0 (Down (client session)) ∷ []
  pub silent : (k : ℕ) → leader q.group ≡ Some k → said q (Downs session) ≡ []
  pub lost : leader q.group ≡ None → happens q (Downs session) ≡ q
  pub told : leader q.group ≡ None → said q (Downs session) ≡ NoLeader session ∷ []

pub record NobodyIsTold (session : ℕ) (q : Queue) : Type 0 where
  pub same : happens q (Downs session) ≡ q
  pub silent : said q (Downs session) ≡ []

-- a queue is told of the end of the sessions that have given it a command
abbrev pub TellsOfEnd : ℕ → Queue → Type 0
TellsOfEnd session q =
    ((1 < (q.clients session).numbers.next) → LeaderIsTold session q)
    × (((q.clients session).numbers.next ≤ 1) → NobodyIsTold session q)

-- a session has ended once it ends, and whatever happens then
pub record StaysEnded (session : ℕ) (q : Queue) : Type 0 where
  pub ends : is_ended session (happens q (Ends session)) ≡ true
  pub stays : (event : Event) → is_ended session q ≡ true → is_ended session (happens q event) ≡ true

-- ---- takers

abbrev pub gives : ℕ → Event → Bool
gives number (Attaches session tag other) = nat_eq other number
gives number _ = false

-- a queue's taker of this number, among the events, is given to one consumer alone: no consumer has one of this number,
-- this one has none, and no later event gives it again
pub record IsNewTaker (number : ℕ) (consumer : ConsumerId) (q : Queue) (since : List Event) : Type 0 where
  pub new : list_all (λ (seat : Seat). not (nat_eq seat.number number)) q.seats ≡ true
  pub free : taker_of consumer q.seats ≡ None
  pub once : list_all (λ (event : Event). not (gives number event)) since ≡ true
