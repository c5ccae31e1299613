-- What ties a server to the protocol: when it stands for a member of the protocol's world, and when what it does is a
-- list of the protocol's moves.
use Rattle.std.specs.Prelude.{◌≡◌, ◌⊎◌, ◌≤◌, ◌<◌, ◌+◌, ℕ, Bool, true, List, [], ◌∷◌, length, ◌++◌, option_map}
use Rattle.std.specs.List.{count_by}
use Rattle.qq_base.specs.declared.ids.NodeId.{NodeId}
use Rattle.qq_base.specs.Fronts.{IsFront}
use Rattle.qq_entry.specs.declared.command.Command.{Command}
use Rattle.qq_entry.specs.declared.command.Entry.{Entry}
use Rattle.qq_log.specs.declared.lane.Lane.{Lane as DiskLane}
use Rattle.qq_raft_protocol.specs.Facts.{add, In, Elects, tally}
use Rattle.qq_raft_protocol.specs.Moves.{Move, AreAllowed, run, last_term}
use Rattle.qq_raft_protocol.specs.Moves.Move.{Append as Adding}
use Rattle.qq_raft_protocol.specs.Starts.{IsStart}
use Rattle.qq_raft_protocol.specs.World.{Role as ModelRole, Lane, Member, Ask, Grant, Ack, Sent, World, lanes, start_world}
use Rattle.qq_raft_msg.specs.Rpc.{envelope}
use Rattle.qq_raft_msg.specs.declared.rpc.AppendMsg.{AppendMsg}
use Rattle.qq_raft_msg.specs.declared.rpc.AppendedMsg.{AppendedMsg}
use Rattle.qq_raft_msg.specs.declared.rpc.Rpc.{Rpc}
use Rattle.qq_raft_msg.specs.declared.rpc.Rpc.TheVariants.{Vote, Voted, Append, Appended, Install, Installed}
use Rattle.qq_raft_msg.specs.declared.rpc.VoteMsg.{VoteMsg}
use Rattle.qq_raft_msg.specs.declared.rpc.VotedMsg.{VotedMsg}
use Rattle.qq_raft_msg.specs.declared.state.Role.{Role}
use Rattle.qq_raft_msg.specs.declared.state.Role.TheVariants.{Leader, Candidate, Follower}
use Rattle.qq_raft_model.specs.Leading.{noop, one_if}
use Rattle.qq_raft_model.specs.Server.{Input, add as add_command, is_ready, step, submit}
use Rattle.qq_raft_model.specs.Server.Input.{Tick, Receive, Submit, Add, Flush, Notice}
use Rattle.qq_raft_model.specs.State.{Server, last}
use Rattle.qq_raft_model.specs.declared.peer.Peer.{Peer}
use Rattle.qq_raft_model.specs.declared.peer.Waiting.{Waiting}

-- ---- a server as a member

abbrev pub number : NodeId → ℕ
number node = node.0

abbrev pub lane_of : Server → Lane
lane_of s = record { op = s.op; term = s.term.0; vote = option_map number s.vote; log = s.log }

abbrev pub role_of : Role → ModelRole
role_of Leader = ModelRole.Leader
role_of Candidate = ModelRole.Candidate
role_of Follower = ModelRole.Follower

-- ---- messages: what was said in the world, and speaks of this change

-- something in a list is so
pub record There {A : Type 0} (xs : List A) (P : A → Type 0) : Type 0 where
  pub item : A
  pub here : In item xs
  pub is : P item

pub record Asks (op : ℕ) (m : VoteMsg) (x : Ask) : Type 0 where
  pub from : x.from ≡ m.from.0
  pub term : x.term ≡ m.term.0
  pub op_is : x.op ≡ op
  pub last_index : length x.log ≡ m.last_index.0
  pub last : last_term x.log ≡ m.last_term.0

pub record Grants (op : ℕ) (m : VotedMsg) (x : Grant) : Type 0 where
  pub from : x.from ≡ m.from.0
  pub to : x.to ≡ m.to.0
  pub term : x.term ≡ m.term.0
  pub op_is : x.op ≡ op

-- the entries end what was sent, and the ones before them end as the message says
pub record Sends (m : AppendMsg) (x : Sent) : Type 0 where
  pub from : x.from ≡ m.from.0
  pub term : x.term ≡ m.term.0
  pub before : List Entry
  pub front : x.front ≡ before ++ m.entries
  pub prev_index : length before ≡ m.prev_index.0
  pub prev_term : last_term before ≡ m.prev_term.0
  pub commit : length x.done ≡ m.commit.0
  pub agree : IsFront x.done x.front ⊎ IsFront x.front x.done

pub record Acks (op : ℕ) (m : AppendedMsg) (x : Ack) : Type 0 where
  pub from : x.from ≡ m.from.0
  pub term : x.term ≡ m.term.0
  pub upto : m.index.0 ≤ x.upto
  pub op_is : x.op ≡ op

abbrev pub Says : List Ask → List Grant → List Ack → List Sent → ℕ → Rpc → Type 0
Says asks grants acks sents op (Vote m) = There asks (Asks op m)
Says asks grants acks sents op (Voted m) = m.granted ≡ true → There grants (Grants op m)
Says asks grants acks sents op (Append m) = There sents (Sends m)
Says asks grants acks sents op (Appended m) = m.ok ≡ true → There acks (Acks op m)
Says asks grants acks sents op (Install m) = Unit {0}
Says asks grants acks sents op (Installed m) = Unit {0}

-- a message of this node speaks of a change
pub record IsSaid (w : World) (node op : ℕ) (r : Rpc) : Type 0 where
  pub from : (envelope r).from.0 ≡ node
  pub says : Says w.asks w.grants w.acks w.sents op r

-- a message that is on its way: the change that it speaks of is durable at its sender
pub record IsOnItsWay (w : World) (r : Rpc) : Type 0 where
  pub node : ℕ
  pub op : ℕ
  pub said : IsSaid w node op r
  pub durable : op ≤ (w.member node).noticed

-- ---- when a server stands for a member

-- a candidate's vote for itself, which its last change wrote
pub record IsOwnVote (k term op : ℕ) (x : Grant) : Type 0 where
  pub from : x.from ≡ k
  pub to : x.to ≡ k
  pub term_is : x.term ≡ term
  pub op_is : x.op ≡ op

-- the entries up to here are durable at the peer, as far as the server knows
pub record HasMatched (w : World) (term : ℕ) (peer : Peer) : Type 0 where
  pub ack : Ack
  pub said : In ack w.acks
  pub from : ack.from ≡ peer.node.0
  pub term_is : ack.term ≡ term
  pub upto : peer.matched ≤ ack.upto
  pub durable : ack.op ≤ (w.member ack.from).noticed

-- An entry of a leader behind these is acknowledged by itself: the change that added it is as many before the last
-- one as the entry is before the last entry.
pub record HasOwnAck (acks : List Ack) (k term last op : ℕ) (a : List Entry) : Type 0 where
  pub ack : Ack
  pub said : In ack acks
  pub from : ack.from ≡ k
  pub term_is : ack.term ≡ term
  pub upto : length a < ack.upto
  pub op_is : ack.op + last ≤ op + (length a + 1)

abbrev pub AcksItself : List Ack → ℕ → Server → Type 0
AcksItself acks k s =
    (a : List Entry) (e : Entry) → IsFront (add a e) s.log → e.term.0 ≡ s.term.0
    → HasOwnAck acks k s.term.0 (last s) s.op a

-- what a server may send to its peers, and has of them, is within its log
abbrev pub IsWithinLog : Server → Type 0
IsWithinLog s = (p : Peer) → In p s.peers → (p.next ≤ last s + 1) × (p.matched ≤ last s)

pub record Stands (w : World) (k : ℕ) (s : Server) : Type 0 where
  pub node : s.node.0 ≡ k
  pub lane : (w.member k).mine ≡ lane_of s
  pub noticed : (w.member k).noticed ≡ s.noticed
  pub role : w.role k ≡ role_of s.role
  pub commit : length (w.done k) ≡ s.commit
  pub own_vote : s.role ≡ Candidate → There w.grants (IsOwnVote k s.term.0 s.op)
  pub votes : s.role ≡ Candidate → (p : Peer) → In p s.peers → p.granted ≡ true → Elects w s.term.0 k p.node.0
  pub matches : s.role ≡ Leader → (p : Peer) → In p s.peers → (p.matched ≡ 0) ⊎ HasMatched w s.term.0 p
  pub within : s.role ≡ Leader → IsWithinLog s
  pub itself : s.role ≡ Leader → AcksItself w.acks k s
  pub waiting : (x : Waiting) → In x s.waiting → IsSaid w k x.op x.rpc
  pub out : (r : Rpc) → In r s.out → IsOnItsWay w r

-- the members of a group are the server and its peers
pub record IsGroup (members : List ℕ) (k : ℕ) (peers : List Peer) : Type 0 where
  pub count : length members ≡ length peers + 1
  pub each : (test : ℕ → Bool) → tally test members ≡ one_if (test k) + count_by (λ p. test p.node.0) peers

-- ---- what a member's moves leave of the rest

-- no message is gone, and what was durable is
pub record Later (w v : World) : Type 0 where
  pub asks : (x : Ask) → In x w.asks → In x v.asks
  pub grants : (x : Grant) → In x w.grants → In x v.grants
  pub acks : (x : Ack) → In x w.acks → In x v.acks
  pub sents : (x : Sent) → In x w.sents → In x v.sents
  pub noticed : (q : ℕ) → (w.member q).noticed ≤ (v.member q).noticed

-- All others are as they were. What the member's disk may hold it may hold still, but for what is older than what was
-- noticed.
pub record OnlyMoves (k : ℕ) (w v : World) : Type 0 where
  pub later : Later w v
  pub lanes : (l : Lane) → In l (lanes (w.member k)) → (v.member k).noticed ≤ l.op → In l (lanes (v.member k))
  pub member : (q : ℕ) → (q ≡ k → ⊥) → v.member q ≡ w.member q
  pub role : (q : ℕ) → (q ≡ k → ⊥) → v.role q ≡ w.role q
  pub done : (q : ℕ) → (q ≡ k → ⊥) → v.done q ≡ w.done q

-- ---- restarts

-- what a disk holds, as the protocol's lane
abbrev pub disk_lane : DiskLane → Lane
disk_lane lane =
    record { op = lane.op; term = lane.term.0; vote = option_map number lane.vote; log = lane.entries }

-- what member k said may leave, or somebody else said it
abbrev pub IsLeft : ℕ → World → ℕ → ℕ → Type 0
IsLeft k w from op = from ≡ k → op ≤ (w.member k).noticed

-- Others are as they were, and so are their messages and those of the member that may leave.
pub record OnlyRestarts (k : ℕ) (w v : World) : Type 0 where
  pub asks : (x : Ask) → In x w.asks → IsLeft k w x.from x.op → In x v.asks
  pub grants : (x : Grant) → In x w.grants → IsLeft k w x.from x.op → In x v.grants
  pub acks : (x : Ack) → In x w.acks → IsLeft k w x.from x.op → In x v.acks
  pub sents : (x : Sent) → In x w.sents → In x v.sents
  pub noticed : (q : ℕ) → (w.member q).noticed ≤ (v.member q).noticed
  pub member : (q : ℕ) → (q ≡ k → ⊥) → v.member q ≡ w.member q
  pub role : (q : ℕ) → (q ≡ k → ⊥) → v.role q ≡ w.role q
  pub done : (q : ℕ) → (q ≡ k → ⊥) → v.done q ≡ w.done q

-- ---- when what a server does is the protocol's

-- a leader's first entry of a term
abbrev pub IsNoop : Entry → Type 0
IsNoop e = e ≡ noop e.term

-- these moves add no other entries
abbrev pub IsQuiet : Move → Type 0
IsQuiet (Adding k e) = IsNoop e
IsQuiet _ = Unit {0}

abbrev pub AreQuiet : List Move → Type 0
AreQuiet [] = Unit {0}
AreQuiet (m ∷ ms) = IsQuiet m × AreQuiet ms

-- Moves that are allowed lead to a world in which it stands for the member, and nothing else has changed. No client's
-- command is added.
pub record Refines (members : List ℕ) (w : World) (k : ℕ) (s : Server) : Type 0 where
  pub moves : List Move
  pub allowed : AreAllowed members w moves
  pub quiet : AreQuiet moves
  pub stands : Stands (run w moves) k s
  pub only : OnlyMoves k w (run w moves)

-- What may come to a server: a message on its way to it, and that changes are durable that it handed out. A clock and
-- commands may come at any time.
abbrev pub MayCome : World → ℕ → Server → Input → Type 0
MayCome w k s Tick = Unit {0}
MayCome w k s (Receive rpc) = ((envelope rpc).to.0 ≡ k) × IsOnItsWay w rpc
MayCome w k s (Submit time command) = Unit {0}
MayCome w k s (Add time command) = Unit {0}
MayCome w k s Flush = Unit {0}
MayCome w k s (Notice op) = op ≤ s.op

-- an entry is added, and what else the moves do is as above
pub record Adds (members : List ℕ) (w : World) (k : ℕ) (e : Entry) (s : Server) : Type 0 where
  pub moves : List Move
  pub allowed : AreAllowed members w (Adding k e ∷ moves)
  pub quiet : AreQuiet moves
  pub stands : Stands (run w (Adding k e ∷ moves)) k s
  pub only : OnlyMoves k w (run w (Adding k e ∷ moves))

-- the entry of a client's command
abbrev pub entry_of : ℕ → Command → Server → Entry
entry_of time command s = record { term = s.term; time = time; command = command }

-- what a step is: only a ready leader that is given a command adds it
abbrev pub RefinesBy : List ℕ → World → ℕ → Server → Input → Type 0
RefinesBy members w k s (Submit time command) =
    Refines members w k (submit time command s)
    ⊎ ((is_ready s ≡ true) × Adds members w k (entry_of time command s) (submit time command s))
RefinesBy members w k s (Add time command) =
    Refines members w k (add_command time command s)
    ⊎ ((is_ready s ≡ true) × Adds members w k (entry_of time command s) (add_command time command s))
RefinesBy members w k s input = Refines members w k (step s input)

-- a world that allowed moves lead to, from disks that support an audit
pub record IsReached (members : List ℕ) (w : World) : Type 0 where
  pub member : ℕ → Member
  pub audit : List Entry
  pub start : IsStart members member audit
  pub moves : List Move
  pub allowed : AreAllowed members (start_world member audit) moves
  pub is : w ≡ run (start_world member audit) moves
