-- What a step leaves of a server, and what it hands to the log's disk.
use Rattle.std.specs.Prelude.{◌≡◌, ◌⊎◌, ◌≤◌, ◌+◌, ℕ, List, [], ◌∷◌, ◌++◌, map, Option, Some, option_map}
use Rattle.qq_base.specs.declared.ids.NodeId.{NodeId}
use Rattle.qq_base.specs.declared.ids.Term.{Term}
use Rattle.qq_entry.specs.declared.command.Entry.{Entry}
use Rattle.qq_log.specs.declared.op.Op.{Op}
use Rattle.qq_log.specs.Stable.{Stable, apply_op, known_entries, no_snapshot}
use Rattle.qq_raft_protocol.specs.World.{Lane}
use Rattle.qq_raft_model.specs.declared.peer.Peer.{Peer}
use Rattle.qq_raft_model.specs.Refines.{number}
use Rattle.qq_raft_model.specs.State.{Server}

-- the state of a log's disk that has no snapshot and no segment
abbrev pub plain_state : ℕ → Term → Option NodeId → List Entry → Stable
plain_state op term vote log =
    record {
      op = op;
      term = term;
      vote = vote;
      base = no_snapshot;
      snapshot = 0;
      log = map Some log;
      segments = [];
    }

-- what the disk is to hold
abbrev pub state_of : Server → Stable
state_of s = plain_state s.op s.term s.vote s.log

-- what a disk's state tells of a server, as the protocol's lane
abbrev pub lane_in : Stable → Lane
lane_in state =
    record {
      op = state.op;
      term = state.term.0;
      vote = option_map number state.vote;
      log = known_entries state.log;
    }

-- no change is handed out, and the disk is to hold what it held
pub record Rests (s t : Server) : Type 0 where
  pub ops : t.ops ≡ s.ops
  pub state : state_of t ≡ state_of s

-- one change is handed out, with the next number, and with it the disk's state is what it is to hold
pub record Changes (s t : Server) : Type 0 where
  pub op : Op
  pub next : t.op ≡ s.op + 1
  pub ops : t.ops ≡ s.ops ++ op ∷ []
  pub is : apply_op (state_of s) op ≡ Some (state_of t)

abbrev pub peer_number : Peer → ℕ
peer_number peer = peer.node.0

-- it is the same node with the same peers, its term doesn't fall, and it has handed out one change at most
pub record Continues (s t : Server) : Type 0 where
  pub node : t.node ≡ s.node
  pub term : s.term.0 ≤ t.term.0
  pub nodes : map peer_number t.peers ≡ map peer_number s.peers
  pub hands : Rests s t ⊎ Changes s t
