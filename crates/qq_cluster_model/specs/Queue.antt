-- One queue of a cluster: the group of servers that replicates it (Ongaro's dissertation, chapter 3), its part of each
-- node's log, and the sessions of its clients with their consumers. What may happen to it, and what is shown of that.
use Rattle.std.specs.Prelude.{ℕ, List, [], ◌∷◌, ◌++◌, Bool, true, ◌&&◌, Option, Some, None, is_some, length, drop, filter, flat_map, fold, replicate, take, nat_eq, nat_lt, if◌then◌else◌}
use Rattle.qq_base.specs.Fronts.{put}
use Rattle.qq_base.specs.Ids.{client}
use Rattle.qq_base.specs.declared.ids.ConsumerId.{ConsumerId}
use Rattle.qq_base.specs.declared.ids.NodeId.{NodeId}
use Rattle.qq_consuming.specs.Consuming.{Received}
use Rattle.qq_entry.specs.declared.audit.AuditRow.{AuditRow}
use Rattle.qq_entry.specs.declared.audit.Effect.{Effect}
use Rattle.qq_entry.specs.declared.command.Command.{Command}
use Rattle.qq_entry.specs.declared.command.Command.TheVariants as commands
use Rattle.qq_entry.specs.declared.command.Entry.{Entry}
use Rattle.qq_entry.specs.declared.command.Unstamped.{Unstamped}
use Rattle.qq_entry.specs.declared.queue.QueueArgs.{QueueArgs}
use Rattle.qq_model.specs.Audit.{audit_of, state_after}
use Rattle.qq_model.specs.State.{empty_queue}
use Rattle.qq_raft_model.specs.Group.{Event as Move, Group, group_after, may_restart}
use Rattle.qq_raft_model.specs.Group.Event.{Tick, Submit, Deliver, Lose, Copy, Take, Notice, Crash, Restart}
use Rattle.qq_raft_model.specs.Server.{is_ready}
use Rattle.qq_raft_model.specs.State.{Server}
use Rattle.qq_raft_msg.specs.Rpc.{envelope}
use Rattle.qq_raft_msg.specs.declared.rpc.Rpc.{Rpc}
use Rattle.qq_session.specs.Publishing.{Numbers, next_command, hand, open_commands}
use Rattle.qq_session.specs.Clients.{Clients, new_clients, hear_all, printed, may_hand, is_used}
use Rattle.qq_session.specs.declared.shown.Shown.{Shown}
use Rattle.qq_session.specs.declared.shown.Shown.TheVariants.{Attached, HasEnded, IsBusy, NotTaken, WindowFull}
use Rattle.qq_session.specs.Shown.{effects_of_term, said_of}
use Rattle.qq_taker.specs.Seats.{sit, taker_of}
use Rattle.qq_taker.specs.declared.seats.Seat.{Seat}
use Rattle.qq_taker.specs.declared.taker.Verdict.{Verdict}
use Rattle.qq_taker.specs.declared.handed.Handed.{Handed}
use Rattle.qq_cluster_model.specs.Delivering.{come_all, hand_all, learn, fetch}
use Rattle.qq_cluster_model.specs.Taking.{answers, delivered, judged, seated, told_then, unjudged, waiting_then}

-- ---- the leader

-- a member that leads and takes commands, and its term
pub record Leading : Type 0 where
  pub node : ℕ
  pub term : ℕ

abbrev pub leading : ℕ → Option Server → Option Leading
leading k None = None
leading k (Some s) = if is_ready s then Some (record { node = k; term = s.term.0 }) else None

-- of two the one of the later term, the first where they are equal
abbrev pub later : Option Leading → Option Leading → Option Leading
later best None = best
later None (Some next) = Some next
later (Some best) (Some next) = if nat_lt best.term next.term then Some next else Some best

abbrev pub latest : List NodeId → Group → Option Leading
latest nodes g = fold (λ best n. later best (leading n.0 (g.seat n.0).server)) None nodes

abbrev pub node_of : Option Leading → Option ℕ
node_of None = None
node_of (Some l) = Some l.node

-- of the members that lead and take commands the one of the latest term, None where there is none
abbrev pub leader : Group → Option ℕ
leader g = node_of (latest g.nodes g)

-- ---- a queue

pub record Queue : Type 0 where
  pub args : QueueArgs
  pub clients : Clients
  pub consumers : List Received  -- those that the clients know, in the order of their subscriptions
  pub seats : List Seat  -- the consumers that have a taker, in the order of their tags
  pub untold : List Handed  -- what was handed out from the first delivery on that waits for its taker's verdict
  pub group : Group
  pub synced : ℕ → ℕ  -- how many of the ops that each node's log was handed a sync has kept

-- a queue begins with a group all of whose members are down; what they were noticed of is kept
abbrev pub begin : QueueArgs → Group → Queue
begin args group =
    record {
      args = args;
      clients = new_clients args;
      consumers = [];
      seats = [];
      untold = [];
      group = group;
      synced = λ k. (group.seat k).noticed;
    }

pub data Event : Type 0 where
  -- from here on answers to a session are lost, or come again
  Mutes : (session : ℕ) (muted : Bool) → Event
  -- a client's session ends: it gives no more commands
  Ends : (session : ℕ) → Event
  -- a client gives a command a number and sends it to the leader
  Submits : (session : ℕ) (body : Unstamped) → Event
  -- a session that has ended is to give a command
  TellsEnded : (session : ℕ) → Event
  -- a session is to give a command for a delivery of this id, which wasn't handed out
  TellsNotTaken : (session id : ℕ) → Event
  -- the taker of this number is to be given to a consumer of a session
  Attaches : (session tag number : ℕ) → Event
  -- the taker of the first delivery that waits gives this verdict on it
  Judges : (verdict : Verdict) → Event
  -- a client sends all its open commands again
  Resends : (session : ℕ) → Event
  -- a client asks the leader for what is out with its consumers and hasn't come to them
  Fetches : (session : ℕ) → Event
  -- the queue is told that a session has ended
  Downs : (session : ℕ) → Event
  -- time passes at a member
  Ticks : (node : ℕ) → Event
  -- the message at a place of the bag, the first one's is 0, is delivered, is lost, or is there twice
  Delivers : (at : ℕ) → Event
  Loses : (at : ℕ) → Event
  Copies : (at : ℕ) → Event
  -- all that a member has handed out is given to its node's log
  Writes : (node : ℕ) → Event
  -- all that a node's log was given is synced
  Syncs : (node : ℕ) → Event
  -- a member is told what of it is synced
  Notices : (node : ℕ) → Event
  -- a node stops: a call of its disk has failed, or it is crashed
  Stops : (node : ℕ) → Event
  -- a node is restarted, and recovery finds so many of the queue's ops
  Finds : (node op : ℕ) → Event

-- ---- what an event is to the group

-- a command goes to the leader, at time 0; where there is none it is lost on the way
abbrev pub submit_to : Option ℕ → Command → List Move
submit_to None command = []
submit_to (Some k) command = Submit k 0 command ∷ []

abbrev pub submits : Option ℕ → List Command → List Move
submits o commands = flat_map (submit_to o) commands

-- how many ops a member has handed out that its log wasn't given
abbrev pub waiting_by : Option Server → ℕ
waiting_by None = 0
waiting_by (Some s) = length s.ops

abbrev pub waiting : ℕ → Group → ℕ
waiting k g = waiting_by (g.seat k).server

-- the commands that an event offers
abbrev pub offered : Clients → Event → List Command
offered clients (Submits session body) =
    let numbers : Numbers = (clients session).numbers in
    if may_hand numbers then next_command body numbers ∷ [] else []
offered clients (Resends session) = open_commands (clients session).numbers
offered clients (Downs session) =
    if is_used (clients session).numbers then commands.Down (client session) ∷ [] else []
offered clients _ = []

abbrev pub moves : Queue → Event → List Move
moves q (Ticks k) = Tick k ∷ []
moves q (Delivers at) = Deliver at ∷ []
moves q (Loses at) = Lose at ∷ []
moves q (Copies at) = Copy at ∷ []
moves q (Writes k) = replicate (waiting k q.group) (Take k)
moves q (Notices k) = Notice k (q.synced k) ∷ []
moves q (Stops k) = Crash k ∷ []
moves q (Finds k op) = Restart k op ∷ []
moves q event = submits (leader q.group) (offered q.clients event)

abbrev pub group_then : Queue → Event → Group
group_then q event = group_after q.group (moves q event)

-- ---- what a step tells

abbrev pub receiver_by : List Rpc → Option ℕ
receiver_by [] = None
receiver_by (rpc ∷ rpcs) = Some (envelope rpc).to.0

-- the member whose commit an event may move
abbrev pub stepping : Queue → Event → Option ℕ
stepping q (Delivers at) = receiver_by (drop at q.group.bag)
stepping q (Notices k) = Some k
stepping q _ = None

-- a leader that takes commands answers those of its own term (section 6.4)
abbrev pub is_shown : Server → AuditRow → Bool
is_shown s row = is_ready s && nat_eq row.entry.term.0 s.term.0

-- the rows that a step of a server, from the first to the second, applies and answers
abbrev pub own_rows : QueueArgs → Server → Server → List AuditRow
own_rows args s t = filter (is_shown t) (drop s.commit (audit_of (empty_queue args) (take t.commit t.log)))

-- and what these rows do beside
abbrev pub own_effects : QueueArgs → Server → Server → List Effect
own_effects args s t =
    let all : List Entry = take t.commit t.log in
    if is_ready t then
    effects_of_term t.term (state_after (empty_queue args) (take s.commit all)) (drop s.commit all) else []

abbrev pub rows_by : QueueArgs → Option Server → Option Server → List AuditRow
rows_by args (Some s) (Some t) = own_rows args s t
rows_by args _ _ = []

abbrev pub effects_by : QueueArgs → Option Server → Option Server → List Effect
effects_by args (Some s) (Some t) = own_effects args s t
effects_by args _ _ = []

abbrev pub rows_at : Option ℕ → QueueArgs → Group → Group → List AuditRow
rows_at None args g h = []
rows_at (Some k) args g h = rows_by args (g.seat k).server (h.seat k).server

abbrev pub effects_at : Option ℕ → QueueArgs → Group → Group → List Effect
effects_at None args g h = []
effects_at (Some k) args g h = effects_by args (g.seat k).server (h.seat k).server

-- the rows that an event answers, and the effects that they have
abbrev pub rows_told : Queue → Event → List AuditRow
rows_told q event = rows_at (stepping q event) q.args q.group (group_then q event)

abbrev pub effects_told : Queue → Event → List Effect
effects_told q event = effects_at (stepping q event) q.args q.group (group_then q event)

abbrev pub server_of : Option ℕ → Group → Option Server
server_of None g = None
server_of (Some k) g = (g.seat k).server

-- the effects that come to the clients: those of the rows, or again what is out with a session's consumers
abbrev pub effects_shown : Queue → Event → List Effect
effects_shown q (Fetches session) = fetch q.args (server_of (leader q.group) q.group) session q.consumers
effects_shown q event = effects_told q event

-- ---- what an event does

-- what a client does by itself
abbrev pub acts : Event → Clients → Clients
acts (Mutes session muted) clients = put session (record (clients session) { muted = muted }) clients
acts (Ends session) clients = put session (record (clients session) { ended = true }) clients
acts (Submits session body) clients =
    let numbers : Numbers = (clients session).numbers in
    if may_hand numbers then put session (record (clients session) { numbers = hand body numbers }) clients
    else clients
acts _ clients = clients

-- the consumers that clients know then
abbrev pub known : Clients → Event → List Received → List Received
known clients (Submits session body) all = learn clients session body all
known clients _ all = all

-- the consumer of a client's session
abbrev pub consumer_of : (session tag : ℕ) → ConsumerId
consumer_of session tag = record { session = client session; tag = tag }

-- a consumer that has a taker gets no second one
abbrev pub attach : ConsumerId → ℕ → Option ℕ → List Seat → List Seat
attach id number None seats = sit (record { consumer = id; number = number }) seats
attach id number (Some other) seats = seats

-- who has a taker then
abbrev pub seats_after : Queue → Event → List Seat
seats_after q (Attaches session tag number) =
    let id : ConsumerId = consumer_of session tag in attach id number (taker_of id q.seats) q.seats
seats_after q event = seated q.seats (printed (rows_told q event) q.clients)

-- what is handed out
abbrev pub handed_out : Queue → Event → List Handed
handed_out q event = hand_all q.clients (effects_shown q event) (known q.clients event q.consumers)

abbrev pub untold_after : Queue → Event → List Handed
untold_after q (Judges verdict) = unjudged q.seats q.untold
untold_after q event = waiting_then q.untold (seats_after q event) (handed_out q event)

abbrev pub synced_after : Queue → Event → ℕ → ℕ
synced_after q (Syncs k) =
    if is_some (q.group.seat k).server then put k (length (q.group.seat k).ops) q.synced else q.synced
synced_after q (Finds k op) = if may_restart k op q.group then put k op q.synced else q.synced
synced_after q _ = q.synced

abbrev pub happens : Queue → Event → Queue
happens q event =
    record q {
      clients = hear_all (rows_told q event) (acts event q.clients);
      consumers = come_all q.clients (effects_shown q event) (known q.clients event q.consumers);
      seats = seats_after q event;
      untold = untold_after q event;
      group = group_then q event;
      synced = synced_after q event;
    }

-- ---- what an event shows

-- the answers in the order of their rows, and then the deliveries that are handed out, up to the first one for a taker
abbrev pub told : Queue → Event → List Shown
told q event =
    answers q.seats (printed (rows_told q event) q.clients)
    ++ delivered (told_then q.untold (seats_after q event) (handed_out q event))

-- a taker is given to a consumer, unless it has one
abbrev pub attached : ℕ → ℕ → Option ℕ → List Shown
attached session number None = Attached session number ∷ []
attached session number (Some other) = IsBusy session other ∷ []

abbrev pub has_leader : Queue → Bool
has_leader q = is_some (leader q.group)

abbrev pub said : Queue → Event → List Shown
said q (Submits session body) =
    if may_hand (q.clients session).numbers
    then said_of (has_leader q) session (offered q.clients (Submits session body)) else WindowFull session ∷ []
said q (Resends session) = said_of (has_leader q) session (offered q.clients (Resends session))
said q (Downs session) = said_of (has_leader q) session (offered q.clients (Downs session))
said q (TellsEnded session) = HasEnded session ∷ []
said q (TellsNotTaken session id) = NotTaken session id ∷ []
said q (Attaches session tag number) = attached session number (taker_of (consumer_of session tag) q.seats)
said q (Judges verdict) = judged q.seats verdict q.untold
said q event = told q event

-- ---- lists of events

abbrev pub after : Queue → List Event → Queue
after q [] = q
after q (event ∷ events) = after (happens q event) events

abbrev pub all_said : Queue → List Event → List Shown
all_said q [] = []
all_said q (event ∷ events) = said q event ++ all_said (happens q event) events

-- ---- its audit

-- the queue's one audit: what its definition gives of the entries that its group has committed
abbrev pub audit_rows : Queue → List AuditRow
audit_rows q = audit_of (empty_queue q.args) q.group.audit
