-- The one encoding of each message. Numbers have their high byte first.
use Rattle.std.specs.Prelude.{ℕ, List, ◌++◌, length}
use Rattle.qq_fields.specs.Writing.{u8, u32, u64, flag}
use Rattle.qq_command.specs.Encoding.{entries}
use Rattle.qq_raft_msg.specs.declared.envelope.Envelope.{Envelope}
use Rattle.qq_raft_msg.specs.declared.rpc.Rpc.{Rpc}
use Rattle.qq_raft_msg.specs.declared.rpc.Rpc.TheVariants.{Vote, Voted, Append, Appended, Install, Installed}
use Rattle.qq_raft_msg.specs.Rpc as rpc

unfoldable pub way : Envelope → List ℕ
way e = u8 e.from.0 ++ u8 e.to.0 ++ u64 e.term.0

-- a length, and so many bytes
unfoldable pub shadow : List ℕ → List ℕ
shadow bytes = u32 (length bytes) ++ bytes

-- what follows the envelope
unfoldable pub fields : Rpc → List ℕ
fields (Vote m) = u64 m.last_index.0 ++ u64 m.last_term.0
fields (Voted m) = flag m.granted
fields (Append m) = u64 m.prev_index.0 ++ u64 m.prev_term.0 ++ u64 m.commit.0 ++ entries m.entries
fields (Appended m) = flag m.ok ++ u64 m.index.0
fields (Install m) = u64 m.index.0 ++ u64 m.last_term.0 ++ u64 m.through.0 ++ shadow m.shadow
fields (Installed m) = u64 m.index.0

unfoldable pub encoding : Rpc → List ℕ
encoding r = u8 (rpc.kind r) ++ way (rpc.envelope r) ++ fields r
