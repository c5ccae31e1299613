-- Numbers of messages within their ends.
use Rattle.std.specs.Prelude.{◌≡◌, ◌+◌, ℕ, Bool, true, List, length, nat_le, ◌&&◌}
use Rattle.std.specs.List.{flat_map, list_all}
use Rattle.qq_base.specs.declared.memory.TheConstants.{NUMBER_END}
use Rattle.qq_command.specs.Encoding.{encoding}
use Rattle.qq_entry.specs.declared.command.Entry.{Entry}
use Rattle.qq_log.specs.declared.limits.TheConstants.{RECORD_LIMIT}
use Rattle.qq_raft_msg.specs.Rpc.{envelope, IsWritable}
use Rattle.qq_raft_msg.specs.declared.rpc.Rpc.{Rpc}
use Rattle.qq_raft_msg.specs.declared.rpc.Rpc.TheVariants.{Vote, Voted, Append, Appended, Install, Installed}

-- an index or a term is within its end
abbrev pub is_within : ℕ → Bool
is_within n = nat_le n NUMBER_END

abbrev pub has_term : Entry → Bool
has_term e = is_within e.term.0

abbrev pub has_indices : Rpc → Bool
has_indices (Vote m) = is_within m.last_index.0 && is_within m.last_term.0
has_indices (Voted m) = true
has_indices (Append m) =
    is_within m.prev_index.0 && is_within m.prev_term.0 && is_within m.commit.0
    && is_within (m.prev_index.0 + length m.entries) && list_all has_term m.entries
has_indices (Appended m) = is_within m.index.0
has_indices (Install m) = is_within m.index.0 && is_within m.last_term.0 && is_within m.through.0
has_indices (Installed m) = is_within m.index.0

-- entries of one change, whose record the log writes
abbrev pub is_short : List Entry → Bool
is_short entries = nat_le (46 + length (flat_map encoding entries)) RECORD_LIMIT

abbrev pub has_size : Rpc → Bool
has_size (Append m) = is_short m.entries
has_size _ = true

-- its terms and indices are within their ends, and its entries no more than one change may have
pub record HasEnds (rpc : Rpc) : Type 0 where
  pub term : is_within (envelope rpc).term.0 ≡ true
  pub indices : has_indices rpc ≡ true
  pub size : has_size rpc ≡ true

-- what a server may send: a message with bytes, which fits whoever gets it by its numbers
abbrev pub IsSendable : Rpc → Type 0
IsSendable rpc = IsWritable rpc × HasEnds rpc
