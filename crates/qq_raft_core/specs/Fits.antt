-- Which messages a server takes.
use Rattle.std.specs.Prelude.{◌+◌, ◌≤◌, ⊤, Bool, List, All, length, nat_eq, ◌&&◌}
use Rattle.std.specs.List.{flat_map, list_any}
use Rattle.qq_command.specs.Encoding.{encoding}
use Rattle.qq_entry.specs.declared.command.Entry.{Entry}
use Rattle.qq_log.specs.declared.limits.TheConstants.{RECORD_LIMIT}
use Rattle.qq_raft_msg.specs.Rpc.{IsNode}
use Rattle.qq_raft_core.specs.Ends.{has_indices, has_size, is_within}
use Rattle.qq_raft_core.specs.Raft.{IsInLog}
use Rattle.qq_base.specs.declared.memory.TheConstants.{NUMBER_END}
use Rattle.qq_raft_msg.specs.Rpc.{envelope}
use Rattle.qq_raft_msg.specs.declared.rpc.AppendMsg.{AppendMsg}
use Rattle.qq_raft_msg.specs.declared.rpc.Rpc.{Rpc}
use Rattle.qq_raft_msg.specs.declared.rpc.Rpc.TheVariants.{Append, Appended}
use Rattle.qq_raft_model.specs.State.{Server}
use Rattle.qq_raft_model.specs.Server.{is_peer}

-- a message for this server from another member, whose terms and indices are within their ends, and whose entries are
-- no more than one change may have
unfoldable pub fits : Server → Rpc → Bool
fits s rpc =
    nat_eq (envelope rpc).to.0 s.node.0 && list_any (is_peer (envelope rpc).from) s.peers
    && is_within (envelope rpc).term.0 && has_indices rpc && has_size rpc

-- entries of one change
abbrev pub IsShort : List Entry → Type 0
IsShort entries = 46 + length (flat_map encoding entries) ≤ RECORD_LIMIT

-- the last entry of the message is within the end of indices, and its entries may be written in one change
pub record AppendFits (m : AppendMsg) : Type 0 where
  pub last : m.prev_index.0 + length m.entries ≤ NUMBER_END
  pub entries : All IsInLog m.entries
  pub short : IsShort m.entries

abbrev pub HasIndices : Rpc → Type 0
HasIndices (Append m) = AppendFits m
HasIndices (Appended m) = m.index.0 ≤ NUMBER_END
HasIndices _ = ⊤

-- the sender is a node, and the term and the indices that a server goes by are within their ends
pub record IsWithin (rpc : Rpc) : Type 0 where
  pub from : IsNode (envelope rpc).from
  pub term : (envelope rpc).term.0 ≤ NUMBER_END
  pub indices : HasIndices rpc
