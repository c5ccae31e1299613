-- Worked steps of node 1 in a group of three.
use Rattle.std.specs.Prelude.{ℕ, Bool, List, [], ◌∷◌, map, Option, Some}
use Rattle.qq_base.specs.declared.ids.NodeId.{NodeId}
use Rattle.qq_entry.specs.declared.command.Entry.{Entry}
use Rattle.qq_raft_msg.specs.declared.rpc.Rpc.{Rpc}
use Rattle.qq_raft_msg.specs.declared.rpc.Rpc.TheVariants.{Vote, Append, Appended}
use Rattle.qq_raft_msg.specs.declared.state.Role.{Role}
use Rattle.qq_raft_model.specs.declared.peer.Peer.{Peer}
use Rattle.qq_raft_model.specs.Leading.{noop}
use Rattle.qq_raft_model.specs.Server.{new_peer}
use Rattle.qq_raft_model.specs.State.{Server}

abbrev pub node : ℕ → NodeId
node n = record { 0 = n }

-- an entry of a term
abbrev pub of_term : ℕ → Entry
of_term term = noop (record { 0 = term })

abbrev pub peer : ℕ → Peer
peer n = new_peer (node n)

-- node 1 in a term, with a log of entries of these terms, whose 5 changes are durable
abbrev pub server : Role → ℕ → Option NodeId → List ℕ → Server
server role term vote terms =
    record {
      queue = record { 0 = 1 };
      node = node 1;
      peers = peer 2 ∷ peer 3 ∷ [];
      op = 5;
      term = record { 0 = term };
      vote = vote;
      log = map of_term terms;
      noticed = 5;
      role = role;
      leader = Some (node 1);
      commit = 0;
      waiting = [];
      ops = [];
      out = [];
    }

-- ---- messages of node 2

abbrev pub acknowledgement : (term index : ℕ) → Rpc
acknowledgement term index =
    Appended (record {
      from = node 2;
      to = node 1;
      term = record { 0 = term };
      ok = Bool.true;
      index = record { 0 = index };
    })

-- entries of these terms behind an entry
abbrev pub append : (term index prev_term : ℕ) → List ℕ → Rpc
append term index prev_term terms =
    Append (record {
      from = node 2;
      to = node 1;
      term = record { 0 = term };
      prev_index = record { 0 = index };
      prev_term = record { 0 = prev_term };
      commit = record { 0 = 0 };
      entries = map of_term terms;
    })

abbrev pub vote : (from term last_index last_term : ℕ) → Rpc
vote from term last_index last_term =
    Vote (record {
      from = node from;
      to = node 1;
      term = record { 0 = term };
      last_index = record { 0 = last_index };
      last_term = record { 0 = last_term };
    })
