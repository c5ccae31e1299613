-- A server's step (Ongaro's dissertation, figure 3.1): what each input makes of it.
use Rattle.std.specs.Prelude.{◌+◌, ◌-◌, ℕ, suc, Bool, true, false, List, [], ◌∷◌, ◌++◌, length, drop, map, filter, min, Option, Some, None, nat_eq, nat_le, nat_lt, ◌==◌, ◌&&◌, ◌||◌, not, if◌then◌else◌}
use Rattle.qq_base.specs.declared.ids.NodeId.{NodeId}
use Rattle.qq_entry.specs.declared.command.Command.{Command}
use Rattle.qq_entry.specs.declared.command.Entry.{Entry}
use Rattle.qq_log.specs.declared.lane.Lane.{Lane}
use Rattle.qq_log.specs.Same.{same_vote}
use Rattle.qq_raft_protocol.specs.Moves.{last_term}
use Rattle.qq_raft_msg.specs.Rpc.{envelope}
use Rattle.qq_raft_msg.specs.declared.rpc.AppendMsg.{AppendMsg}
use Rattle.qq_raft_msg.specs.declared.rpc.AppendedMsg.{AppendedMsg}
use Rattle.qq_raft_msg.specs.declared.rpc.Rpc.{Rpc}
use Rattle.qq_raft_msg.specs.declared.rpc.Rpc.TheVariants.{Vote, Voted, Append, Appended, Install, Installed}
use Rattle.qq_raft_msg.specs.declared.rpc.VoteMsg.{VoteMsg}
use Rattle.qq_raft_msg.specs.declared.rpc.VotedMsg.{VotedMsg}
use Rattle.qq_raft_msg.specs.declared.state.Role.TheVariants.{Follower}
use Rattle.qq_raft_model.specs.declared.peer.Peer.{Peer}
use Rattle.qq_raft_model.specs.declared.peer.Waiting.{Waiting}
use Rattle.qq_raft_model.specs.State.{Server, last, term_at, is_leader, is_candidate, follow, change, vote_in, leader_in, enter, say}
use Rattle.qq_raft_model.specs.Leading.{send, everyone, add_entry, append_entry, flush, stand, lead_if_elected, advance}

pub data Input : Type 0 where
  -- time has passed without word from a leader, or it is time for a leader to send
  Tick : Input
  Receive : (rpc : Rpc) → Input
  -- a client's command, and the leader's time
  Submit : (time : ℕ) (command : Command) → Input
  -- the same, but that the entry isn't sent before the next `Flush`
  Add : (time : ℕ) (command : Command) → Input
  Flush : Input
  -- the changes up to a number are durable
  Notice : (op : ℕ) → Input

-- ---- answers

abbrev pub voted : NodeId → Bool → Server → Rpc
voted to granted s = Voted (record { from = s.node; to = to; term = s.term; granted = granted })

abbrev pub appended : NodeId → Bool → ℕ → Server → Rpc
appended to ok index s =
    Appended (record { from = s.node; to = to; term = s.term; ok = ok; index = record { 0 = index } })

abbrev pub installed : NodeId → ℕ → Server → Rpc
installed to index s = Installed (record { from = s.node; to = to; term = s.term; index = record { 0 = index } })

-- an earlier term's request is answered with the own term, and its answers are passed over
unfoldable pub refuse : Rpc → Server → Server
refuse (Vote m) s = say (voted m.from false s) s
refuse (Append m) s = say (appended m.from false (last s) s) s
refuse (Install m) s = say (installed m.from s.commit s) s
refuse _ s = s

-- ---- votes

-- a log whose last entry is told is as up to date as the own one (section 3.6.1)
abbrev pub is_current : List Entry → VoteMsg → Bool
is_current own m =
    nat_lt (last_term own) m.last_term.0
    || ((last_term own == m.last_term.0) && nat_le (length own) m.last_index.0)

-- nobody else has the vote
abbrev pub is_free : Option NodeId → NodeId → Bool
is_free vote node = same_vote vote None || same_vote vote (Some node)

abbrev pub may_grant : VoteMsg → Server → Bool
may_grant m s = is_free (vote_in m.term s) m.from && is_current s.log m

-- the vote is given, where the candidate hasn't got it already
unfoldable pub give_vote : VoteMsg → Server → Server
give_vote m s =
    if same_vote (vote_in m.term s) (Some m.from) then s
    else follow (leader_in m.term s) (change m.term (Some m.from) (last s) [] s)

abbrev pub say_voted : VoteMsg → Bool → Server → Server
say_voted m granted s = say (voted m.from granted s) s

unfoldable pub receive_vote : VoteMsg → Server → Server
receive_vote m s =
    if may_grant m s then say_voted m true (give_vote m s) else say_voted m false (enter m.term s)

abbrev pub is_peer : NodeId → Peer → Bool
is_peer node peer = nat_eq peer.node.0 node.0

abbrev pub at_peer : NodeId → (Peer → Peer) → Server → Server
at_peer node f s = record s { peers = map (λ p. if is_peer node p then f p else p) s.peers }

abbrev pub grant_peer : Peer → Peer
grant_peer peer = record peer { granted = true }

abbrev pub count_vote : VotedMsg → Server → Server
count_vote m s =
    if is_candidate s.role && m.granted then lead_if_elected (at_peer m.from grant_peer s) else s

unfoldable pub receive_voted : VotedMsg → Server → Server
receive_voted m s = count_vote m (enter m.term s)

-- ---- entries

-- the own entry before the new ones has the leader's term
abbrev pub is_match : AppendMsg → List Entry → Bool
is_match m log =
    nat_eq m.prev_index.0 0
    || (nat_le m.prev_index.0 (length log) && (term_at log m.prev_index.0 == m.prev_term.0))

-- how many entries have the terms of the own ones, from the first on
abbrev pub agreed : List Entry → List Entry → ℕ
agreed [] own = 0
agreed (e ∷ es) [] = 0
agreed (e ∷ es) (f ∷ fs) = if e.term.0 == f.term.0 then suc (agreed es fs) else 0

abbrev pub has_agreed : AppendMsg → List Entry → ℕ
has_agreed m log = agreed m.entries (drop m.prev_index.0 log)

-- the log is cut where the first entry differs, and what is missing follows; else it stays (section 3.5)
abbrev pub write : AppendMsg → List Entry → Server → Server
write m [] s = enter m.term s
write m (e ∷ es) s = change m.term (vote_in m.term s) (m.prev_index.0 + has_agreed m s.log) (e ∷ es) s

-- the last entry that is sent
abbrev pub end : AppendMsg → ℕ
end m = m.prev_index.0 + length m.entries

-- entries up to an index are known to be committed
abbrev pub learn : ℕ → Server → Server
learn index s = record s { commit = if nat_lt s.commit index then index else s.commit }

abbrev pub say_appended : AppendMsg → Bool → ℕ → Server → Server
say_appended m ok index s = say (appended m.from ok index s) s

abbrev pub write_missing : AppendMsg → Server → Server
write_missing m s = follow (Some m.from) (write m (drop (has_agreed m s.log) m.entries) s)

unfoldable pub take_entries : AppendMsg → Server → Server
take_entries m s = say_appended m true (end m) (learn (min m.commit.0 (end m)) (write_missing m s))

-- the leader is told an index from which it may go on
unfoldable pub refuse_entries : AppendMsg → Server → Server
refuse_entries m s =
    say_appended m false (min (m.prev_index.0 - 1) (last s)) (follow (Some m.from) (enter m.term s))

unfoldable pub receive_append : AppendMsg → Server → Server
receive_append m s = if is_match m s.log then take_entries m s else refuse_entries m s

-- ---- acknowledgements

abbrev pub greater : ℕ → ℕ → ℕ
greater a b = if nat_lt a b then b else a

-- a peer has the entries up to an index
abbrev pub match_peer : ℕ → Peer → Peer
match_peer index peer =
    let matched = greater peer.matched index in
    record peer { matched = matched; next = greater peer.next (matched + 1) }

-- a peer lacks the entry before what was sent
abbrev pub back_peer : ℕ → Peer → Peer
back_peer index peer = record peer { next = greater (peer.matched + 1) (min (peer.next - 1) (index + 1)) }

abbrev pub lacks : NodeId → ℕ → Peer → Bool
lacks node last peer = is_peer node peer && nat_le peer.next last

-- what is left for the peer is sent before the commit moves
unfoldable pub take_ack : AppendedMsg → Server → Server
take_ack m s = advance (send (lacks m.from (last s)) (at_peer m.from (match_peer m.index.0) s))

unfoldable pub step_back : AppendedMsg → Server → Server
step_back m s = send (is_peer m.from) (at_peer m.from (back_peer m.index.0) s)

abbrev pub take_reply : AppendedMsg → Server → Server
take_reply m s = if is_leader s.role then if m.ok then take_ack m s else step_back m s else s

unfoldable pub receive_appended : AppendedMsg → Server → Server
receive_appended m s = take_reply m (enter m.term s)

-- ---- the inputs

-- No server sends a snapshot yet, so that one, and its answer, act by their term alone.
unfoldable pub accept : Rpc → Server → Server
accept (Vote m) s = receive_vote m s
accept (Voted m) s = receive_voted m s
accept (Append m) s = receive_append m s
accept (Appended m) s = receive_appended m s
accept (Install m) s = enter m.term s
accept (Installed m) s = enter m.term s

unfoldable pub receive : Rpc → Server → Server
receive rpc s = if nat_lt (envelope rpc).term.0 s.term.0 then refuse rpc s else accept rpc s

abbrev pub send_again : Peer → Peer
send_again peer = record peer { next = peer.matched + 1 }

-- a leader sends from what it knows the others to have, anyone else stands for election
unfoldable pub tick : Server → Server
tick s = if is_leader s.role then send everyone (record s { peers = map send_again s.peers }) else stand s

-- a leader that has committed an entry of its term (section 6.4)
abbrev pub is_ready : Server → Bool
is_ready s = is_leader s.role && (term_at s.log s.commit == s.term.0)

-- a command that isn't the ready leader's is refused
unfoldable pub submit : ℕ → Command → Server → Server
submit time command s =
    if is_ready s then add_entry (record { term = s.term; time = time; command = command }) s else s

-- the same, but that the entry isn't sent before the next `flush`
unfoldable pub add : ℕ → Command → Server → Server
add time command s =
    if is_ready s then append_entry (record { term = s.term; time = time; command = command }) s else s

-- messages wait in the order of their changes
abbrev pub free : ℕ → List Waiting → List Rpc
free op [] = []
free op (w ∷ ws) = if nat_le w.op op then w.rpc ∷ free op ws else []

abbrev pub still_waiting : ℕ → List Waiting → List Waiting
still_waiting op [] = []
still_waiting op (w ∷ ws) = if nat_le w.op op then still_waiting op ws else w ∷ ws

abbrev pub take_notice : ℕ → Server → Server
take_notice op s =
    record s { noticed = op; out = s.out ++ free op s.waiting; waiting = still_waiting op s.waiting }

-- its vote and its entries may count by then
unfoldable pub notice : ℕ → Server → Server
notice op s = advance (lead_if_elected (take_notice (greater s.noticed op) s))

abbrev pub step : Server → Input → Server
step s Tick = tick s
step s (Receive rpc) = receive rpc s
step s (Submit time command) = submit time command s
step s (Add time command) = add time command s
step s Flush = flush s
step s (Notice op) = notice op s

-- ---- starts

abbrev pub new_peer : NodeId → Peer
new_peer node = record { node = node; next = 1; matched = 0; granted = false }

-- a follower with what the disk holds, which is durable (section 3.8)
abbrev pub restart : NodeId → List NodeId → Lane → Server
restart node members lane =
    record {
      queue = lane.queue;
      node = node;
      peers = map new_peer (filter (λ q. not (nat_eq q.0 node.0)) members);
      op = lane.op;
      term = lane.term;
      vote = lane.vote;
      log = lane.entries;
      noticed = lane.op;
      role = Follower;
      leader = None;
      commit = 0;
      waiting = [];
      ops = [];
      out = [];
    }
