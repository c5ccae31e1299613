-- What a Raft server holds (Ongaro's dissertation, figure 3.1), and what it hands out. Its log is whole: the entry at
-- index i has i - 1 entries before it.
--
-- A change of term, vote or log is handed to the log's disk and worked on at once. A message that speaks of it waits
-- until it is durable (section 3.8).
use Rattle.std.specs.Prelude.{◌+◌, ℕ, Bool, true, false, List, [], ◌∷◌, ◌++◌, length, take, map, Option, None, nat_le, nat_lt, if◌then◌else◌}
use Rattle.qq_base.specs.declared.ids.NodeId.{NodeId}
use Rattle.qq_base.specs.declared.ids.QueueId.{QueueId}
use Rattle.qq_base.specs.declared.ids.Term.{Term}
use Rattle.qq_entry.specs.declared.command.Entry.{Entry}
use Rattle.qq_log.specs.declared.op.Op.{Op}
use Rattle.qq_log.specs.declared.op.Op.TheVariants.{Change}
use Rattle.qq_raft_protocol.specs.Moves.{last_term}
use Rattle.qq_raft_msg.specs.declared.rpc.Rpc.{Rpc}
use Rattle.qq_raft_msg.specs.declared.state.Role.{Role}
use Rattle.qq_raft_model.specs.declared.peer.Peer.{Peer}
use Rattle.qq_raft_model.specs.declared.peer.Waiting.{Waiting}
use Rattle.qq_raft_msg.specs.declared.state.Role.TheVariants.{Leader, Candidate, Follower}

pub record Server : Type 0 where
  pub queue : QueueId
  pub node : NodeId
  pub peers : List Peer  -- the other members
  -- what the disk is to hold
  pub op : ℕ  -- the number of the last change, 0 before the first
  pub term : Term
  pub vote : Option NodeId
  pub log : List Entry
  -- what is forgotten at a restart
  pub noticed : ℕ  -- the change up to which the disk is known to be durable
  pub role : Role
  pub leader : Option NodeId  -- of this term, as far as it is known
  pub commit : ℕ  -- the last entry that is known to be committed
  pub waiting : List Waiting
  -- what is to be taken away
  pub ops : List Op  -- for the log's disk
  pub out : List Rpc  -- for other servers

-- ---- the log

-- the last entry's index
abbrev pub last : Server → ℕ
last s = length s.log

-- the term of the entry at an index up to the last one, 0 at index 0
abbrev pub term_at : List Entry → ℕ → ℕ
term_at log index = last_term (take index log)

-- ---- roles

abbrev pub is_leader : Role → Bool
is_leader Leader = true
is_leader _ = false

abbrev pub is_candidate : Role → Bool
is_candidate Candidate = true
is_candidate _ = false

abbrev pub follow : Option NodeId → Server → Server
follow leader s = record s { role = Follower; leader = leader }

-- ---- changes

-- One change: the term, the vote, and the log, which is kept up to an index and then has these entries. It is handed
-- out with the next number.
unfoldable pub change : Term → Option NodeId → ℕ → List Entry → Server → Server
change term vote keep entries s =
    let op = s.op + 1 in
    record s {
      op = op;
      term = term;
      vote = vote;
      log = take keep s.log ++ entries;
      ops = s.ops ++ Change s.queue op term vote (record { 0 = keep }) entries ∷ [];
    }

-- a later term
abbrev pub is_later : Term → Server → Bool
is_later term s = nat_lt s.term.0 term.0

-- the vote in a term that isn't earlier: nobody has it yet in a later one
abbrev pub vote_in : Term → Server → Option NodeId
vote_in term s = if is_later term s then None else s.vote

-- and the leader that is known in it
abbrev pub leader_in : Term → Server → Option NodeId
leader_in term s = if is_later term s then None else s.leader

-- A later term makes a follower without a vote (section 3.3).
unfoldable pub enter : Term → Server → Server
enter term s = if is_later term s then follow None (change term None (last s) [] s) else s

-- ---- messages

abbrev pub wait : ℕ → Rpc → Waiting
wait op rpc = record { op = op; rpc = rpc }

-- messages that speak of the changes so far leave once the last of these is durable
unfoldable pub say_all : List Rpc → Server → Server
say_all rpcs s =
    if nat_le s.op s.noticed then record s { out = s.out ++ rpcs } else record s {
      waiting = s.waiting ++ map (wait s.op) rpcs;
    }

abbrev pub say : Rpc → Server → Server
say rpc s = say_all (rpc ∷ []) s
