-- What a server holds, as Raft's definition has it.
use Rattle.std.specs.Prelude.{◌≡◌, ◌+◌, ◌⊎◌, ◌<◌, ◌≤◌, ◌^◌, ℕ, [], All, length, true}
use Rattle.qq_entry.specs.Range.{IsWritable as IsEntry}
use Rattle.qq_entry.specs.declared.command.Entry.{Entry}
use Rattle.qq_log.specs.Writable.{IsQueue, IsVote, MayWrite}
use Rattle.qq_raft_msg.specs.Rpc.{IsNode}
use Rattle.qq_raft_model.specs.declared.peer.Waiting.{Waiting}
use Rattle.qq_base.specs.Causes.{SpentOnlyWhere}
use Rattle.qq_base.specs.declared.memory.Memory.{Memory}
use Rattle.qq_base.specs.declared.memory.TheConstants.{NUMBER_END}
use Rattle.qq_base.specs.declared.ids.NodeId.{NodeId}
use Rattle.qq_base.specs.declared.ids.QueueId.{QueueId}
use Rattle.qq_base.specs.declared.ids.Term.{Term}
use Rattle.qq_log.specs.declared.lane.Lane.{Lane}
use Rattle.qq_log.specs.Log.{LogState}
use Rattle.qq_log.specs.Stable.{no_snapshot}
use Rattle.qq_raft_msg.specs.declared.state.MemberState.{MemberState}
use Rattle.qq_raft_model.specs.declared.peer.Peer.{Peer}
use Rattle.qq_raft_model.specs.State.{Server, last}
use Rattle.qq_raft_core.specs.Ends.{IsSendable}
use Rattle.qq_raft_core.specs.Rising.{rises}
use Rattle.qq_raft_core.specs.Undone.{leads_back}
use Rattle.qq_raft_core.specs.declared.raft.Raft.{Raft}

abbrev pub server_of : {L : Type 0} → (L → LogState) → Raft L → Server
server_of log r =
    record {
      queue = r.queue;
      node = r.node;
      peers = r.peers.items;
      op = r.op;
      term = r.term;
      vote = r.vote;
      log = (log r.log).entries;
      noticed = r.noticed;
      role = r.role;
      leader = r.leader;
      commit = r.commit;
      waiting = r.waiting.items;
      ops = r.ops.items;
      out = r.out.items;
    }

-- what is known of another member is within the end of indices
abbrev pub IsPeer : Peer → Type 0
IsPeer p = (p.matched ≤ NUMBER_END) × IsNode p.node × (p.next ≤ NUMBER_END + 1)

-- an entry with bytes, of a term within its end
abbrev pub IsInLog : Entry → Type 0
IsInLog e = IsEntry e × (e.term.0 ≤ NUMBER_END)

-- a node whose term and commit are within their ends
pub record IsSender (node : NodeId) (term : Term) (commit : ℕ) : Type 0 where
  pub node_is : IsNode node
  pub term_within : term.0 ≤ NUMBER_END
  pub commit_within : commit ≤ NUMBER_END

abbrev pub IsWaiting : Waiting → Type 0
IsWaiting w = IsSendable w.rpc

-- the log is whole, no number is past its end, and what is handed out may be written
pub record IsSound {L : Type 0} (log : L → LogState) (r : Raft L) : Type 0 where
  pub whole : (log r.log).base ≡ no_snapshot
  pub last : length (log r.log).entries ≤ NUMBER_END
  pub entries : All IsInLog (log r.log).entries
  pub each : All IsPeer r.peers.items
  pub peers : length r.peers.items < 2 ^ 32
  pub op : r.op ≤ NUMBER_END
  pub term : r.term.0 ≤ NUMBER_END
  pub vote : IsVote r.vote
  pub queue : IsQueue r.queue
  pub node : IsNode r.node
  pub ops : All MayWrite r.ops.items
  pub commit : r.commit ≤ NUMBER_END
  pub out : All IsSendable r.out.items
  pub waiting : All IsWaiting r.waiting.items
  pub undos : leads_back r.op r.undos.items (log r.log).entries ≡ true
  pub mark : r.mark ≤ length r.undos.items
  pub rising : r.rising ≡ true → rises 0 r.term.0 (log r.log).entries ≡ true

-- a number of the server stands at its end
abbrev pub IsAtEnd : Server → Type 0
IsAtEnd s = (s.op ≡ NUMBER_END) ⊎ (s.term.0 ≡ NUMBER_END) ⊎ (last s ≡ NUMBER_END)

-- there may be no memory, or a number would pass its end
abbrev pub IsCaused : Server → Memory → Type 0
IsCaused s e = SpentOnlyWhere e NUMBER_END (IsAtEnd s)

-- what a refused call leaves to be taken: nothing
pub record HandsNothingOut (s : Server) : Type 0 where
  pub waiting : s.waiting ≡ []
  pub ops : s.ops ≡ []
  pub out : s.out ≡ []

-- what the log was made from
abbrev pub lane_of : QueueId → LogState → Lane
lane_of queue l =
    record {
      queue = queue;
      op = l.op;
      term = l.term;
      vote = l.vote;
      base = l.base;
      shadow = l.shadow;
      entries = l.entries;
      places = [];
    }

-- its entries and its vote may be written, and none of its numbers is past its end
pub record IsWithinEnds (l : LogState) : Type 0 where
  pub op : l.op ≤ NUMBER_END
  pub term : l.term.0 ≤ NUMBER_END
  pub vote : IsVote l.vote
  pub last : length l.entries ≤ NUMBER_END
  pub entries : All IsInLog l.entries

-- what a server tells of itself
abbrev pub state_of : Server → MemberState
state_of s =
    record { role = s.role; term = s.term; last = record { 0 = last s }; commit = record { 0 = s.commit } }
