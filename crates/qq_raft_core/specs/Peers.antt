-- What becomes of each of the other members, and who is sent to.
use Rattle.std.specs.Prelude.{◌+◌, ◌-◌, ◌≤◌, ℕ, Bool, List, [], ◌∷◌, length, if◌then◌else◌}
use Rattle.qq_base.specs.declared.ids.NodeId.{NodeId}
use Rattle.qq_base.specs.declared.ids.Term.{Term}
use Rattle.qq_base.specs.declared.memory.TheConstants.{NUMBER_END}
use Rattle.qq_entry.specs.declared.command.Entry.{Entry}
use Rattle.qq_raft_msg.specs.declared.rpc.Rpc.{Rpc}
use Rattle.qq_raft_msg.specs.declared.rpc.Rpc.TheVariants.{Append}
use Rattle.qq_raft_model.specs.declared.peer.Peer.{Peer}
use Rattle.qq_raft_model.specs.State.{term_at}
use Rattle.qq_raft_model.specs.Leading.{batch_from, pass, clear_vote, lags, start_peer, everyone}
use Rattle.qq_raft_model.specs.Server.{is_peer, grant_peer, match_peer, back_peer, lacks, send_again}
use Rattle.qq_raft_core.specs.declared.peers.PeerChange.{PeerChange}
use Rattle.qq_raft_core.specs.declared.peers.PeerChange.TheVariants.{Started, Rewound, Asked, Granted, Matched, Behind}
use Rattle.qq_raft_core.specs.declared.peers.Target.{Target}
use Rattle.qq_raft_core.specs.declared.peers.Target.TheVariants.{Everyone, One, Lacking, Lagging}

-- what becomes of one
abbrev pub change_peer : PeerChange → Peer → Peer
change_peer (Started next) = start_peer next
change_peer Rewound = send_again
change_peer Asked = clear_vote
change_peer (Granted node) = λ p. if is_peer node p then grant_peer p else p
change_peer (Matched node index) = λ p. if is_peer node p then match_peer index p else p
change_peer (Behind node index) = λ p. if is_peer node p then back_peer index p else p

-- whether one is sent to, the log having this last index
abbrev pub picks : Target → ℕ → Peer → Bool
picks Everyone last = everyone
picks (One node) last = is_peer node
picks (Lacking node) last = lacks node last
picks Lagging last = lags last

-- what this node sends in this term, with this commit and log
abbrev pub append_from : NodeId → Term → ℕ → List Entry → Peer → Rpc
append_from node term commit log peer =
    Append (record {
      from = node;
      to = peer.node;
      term = term;
      prev_index = record { 0 = peer.next - 1 };
      prev_term = record { 0 = term_at log (peer.next - 1) };
      commit = record { 0 = commit };
      entries = batch_from peer.next log;
    })

-- an index is within the end of indices, and the one behind it at most
abbrev pub IsCounted : PeerChange → Type 0
IsCounted (Started next) = next ≤ NUMBER_END + 1
IsCounted (Matched node index) = index ≤ NUMBER_END
IsCounted (Behind node index) = index ≤ NUMBER_END
IsCounted _ = Unit {0}

-- what one is sent
abbrev pub sent_to : Target → NodeId → Term → ℕ → List Entry → Peer → List Rpc
sent_to target node term commit log peer =
    if picks target (length log) peer then append_from node term commit log peer ∷ [] else []

-- and what becomes of it
abbrev pub passed : Target → List Entry → Peer → Peer
passed target log peer = if picks target (length log) peer then pass log peer else peer
