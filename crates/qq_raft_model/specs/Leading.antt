-- How a server stands for election, leads, sends and commits (Ongaro's dissertation, sections 3.4 to 3.6 and 10.2.1).
use Rattle.std.specs.Prelude.{◌+◌, ◌-◌, ◌*◌, ℕ, zero, suc, Bool, true, false, List, [], ◌∷◌, ◌++◌, length, drop, map, filter, Some, None, nat_le, nat_lt, ◌==◌, ◌&&◌, if◌then◌else◌}
use Rattle.std.specs.List.{count_by, list_any}
use Rattle.qq_base.specs.declared.ids.Term.{Term}
use Rattle.qq_command.specs.Encoding.{encoding}
use Rattle.qq_entry.specs.declared.command.Command.TheVariants.{Noop}
use Rattle.qq_entry.specs.declared.command.Entry.{Entry}
use Rattle.qq_entry.specs.declared.limits.TheConstants.{MACHINE_VERSION}
use Rattle.qq_raft_protocol.specs.Moves.{last_term}
use Rattle.qq_raft_msg.specs.declared.rpc.Rpc.{Rpc}
use Rattle.qq_raft_msg.specs.declared.rpc.Rpc.TheVariants.{Vote, Append}
use Rattle.qq_raft_msg.specs.declared.state.Role.TheVariants.{Leader, Candidate}
use Rattle.qq_raft_model.specs.declared.limits.TheConstants.{BATCH_BYTES, BATCH_ENTRIES}
use Rattle.qq_raft_model.specs.declared.peer.Peer.{Peer}
use Rattle.qq_raft_model.specs.State.{Server, last, term_at, is_leader, is_candidate, change, say_all}

-- ---- sending

-- how many bytes an entry's encoding has
abbrev pub weight : Entry → ℕ
weight e = length (encoding e)

-- the entries that fit, no more than so many, and no more than so many bytes
abbrev pub fit : ℕ → ℕ → List Entry → List Entry
fit zero room entries = []
fit (suc count) room [] = []
fit (suc count) room (e ∷ es) =
    if nat_le (weight e) room then e ∷ fit count (room - weight e) es else []

-- the entries of one message; the first one always goes
abbrev pub batch : List Entry → List Entry
batch [] = []
batch (e ∷ es) = e ∷ fit (BATCH_ENTRIES - 1) (BATCH_BYTES - weight e) es

-- the entries from an index on, as many as go in one message
abbrev pub batch_from : ℕ → List Entry → List Entry
batch_from next log = batch (drop (next - 1) log)

-- what a leader sends to a peer
abbrev pub append_to : Server → Peer → Rpc
append_to s peer =
    let before = peer.next - 1 in
    Append (record {
      from = s.node;
      to = peer.node;
      term = s.term;
      prev_index = record { 0 = before };
      prev_term = record { 0 = term_at s.log before };
      commit = record { 0 = s.commit };
      entries = batch_from peer.next s.log;
    })

abbrev pub pass : List Entry → Peer → Peer
pass log peer = record peer { next = peer.next + length (batch_from peer.next log) }

-- each peer that is picked is sent what it lacks, and its next entry is behind what was sent
unfoldable pub send : (Peer → Bool) → Server → Server
send picks s =
    record s {
      peers = map (λ p. if picks p then pass s.log p else p) s.peers;
      out = s.out ++ map (append_to s) (filter picks s.peers);
    }

abbrev pub everyone : Peer → Bool
everyone peer = true

-- ---- entries of a leader

-- one is added, and isn't sent yet
abbrev pub append_entry : Entry → Server → Server
append_entry entry s = change s.term s.vote (last s) (entry ∷ []) s

unfoldable pub add_entry : Entry → Server → Server
add_entry entry s = send everyone (append_entry entry s)

-- a peer wasn't sent the last entry
abbrev pub lags : ℕ → Peer → Bool
lags last peer = nat_le peer.next last

-- message after message, until each peer was sent the last entry, or so many times
abbrev pub flush_within : ℕ → Server → Server
flush_within zero s = s
flush_within (suc n) s =
    if list_any (lags (last s)) s.peers then flush_within n (send (lags (last s)) s) else s

-- a leader sends what it hasn't sent, one entry or more at a time
unfoldable pub flush : Server → Server
flush s = if is_leader s.role then flush_within (last s + 1) s else s

-- the first entry of a leader (section 3.6.2)
abbrev pub noop : Term → Entry
noop term = record { term = term; time = 0; command = Noop MACHINE_VERSION }

-- ---- majorities

abbrev pub one_if : Bool → ℕ
one_if b = if b then 1 else 0

-- a majority of the peers and the server itself
abbrev pub is_majority : Bool → (Peer → Bool) → List Peer → Bool
is_majority own passes peers = nat_lt (length peers + 1) (2 * (one_if own + count_by passes peers))

-- ---- elections

abbrev pub ask : Server → Peer → Rpc
ask s peer =
    Vote (record {
      from = s.node;
      to = peer.node;
      term = s.term;
      last_index = record { 0 = last s };
      last_term = record { 0 = last_term s.log };
    })

abbrev pub clear_vote : Peer → Peer
clear_vote peer = record peer { granted = false }

abbrev pub next_term : Term → Term
next_term term = record { 0 = term.0 + 1 }

abbrev pub become_candidate : Server → Server
become_candidate s =
    record (change (next_term s.term) (Some s.node) (last s) [] s) {
      role = Candidate;
      leader = None;
      peers = map clear_vote s.peers;
    }

abbrev pub ask_all : Server → Server
ask_all s = say_all (map (ask s) s.peers) s

-- a candidate of the next term, which votes for itself and asks all others (section 3.4)
unfoldable pub stand : Server → Server
stand s = ask_all (become_candidate s)

abbrev pub start_peer : ℕ → Peer → Peer
start_peer next peer = record peer { next = next; matched = 0 }

-- it leads: it knows nothing of the others' logs, and adds an entry of its term
unfoldable pub lead : Server → Server
lead s =
    add_entry (noop s.term) (record s {
      role = Leader;
      leader = Some s.node;
      peers = map (start_peer (last s + 1)) s.peers;
    })

-- the own vote counts once it is durable
abbrev pub is_elected : Server → Bool
is_elected s = is_candidate s.role && is_majority (nat_le s.op s.noticed) (λ p. p.granted) s.peers

unfoldable pub lead_if_elected : Server → Server
lead_if_elected s = if is_elected s then lead s else s

-- ---- commits

-- the last own entry that is durable, of those that a leader added in its term: each of its changes added one
abbrev pub durable : Server → ℕ
durable s = last s - (s.op - s.noticed)

-- an entry of the own term that a majority has durably (sections 3.6.2 and 10.2.1)
abbrev pub may_commit : Server → ℕ → Bool
may_commit s index =
    (term_at s.log index == s.term.0)
    && is_majority (nat_le index (durable s)) (λ p. nat_le index p.matched) s.peers

-- the greatest such index up to so many above a commit, or that commit
abbrev pub commit_within : Server → ℕ → ℕ
commit_within s zero = s.commit
commit_within s (suc n) = if may_commit s (s.commit + suc n) then s.commit + suc n else commit_within s n

-- a leader's commit moves to the last entry that it may commit
unfoldable pub advance : Server → Server
advance s =
    if is_leader s.role then record s { commit = commit_within s (last s - s.commit) } else s
