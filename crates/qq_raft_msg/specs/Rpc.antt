-- The parts of a message, and which messages have bytes.
use Rattle.std.specs.Prelude.{◌<◌, ◌≤◌, ◌^◌, ℕ, length, All, ⊤}
use Rattle.qq_base.specs.declared.ids.NodeId.{NodeId}
use Rattle.qq_entry.specs.Range.{IsWritable as IsEntry}
use Rattle.qq_log.specs.declared.limits.TheConstants.{NODE_LIMIT}
use Rattle.qq_log.specs.Writable.{IsLong}
use Rattle.qq_raft_msg.specs.declared.envelope.Envelope.{Envelope}
use Rattle.qq_raft_msg.specs.declared.kinds.TheConstants as kinds
use Rattle.qq_raft_msg.specs.declared.rpc.Rpc.{Rpc}
use Rattle.qq_raft_msg.specs.declared.rpc.Rpc.TheVariants.{Vote, Voted, Append, Appended, Install, Installed}

-- who sends a message, who is to get it, and the sender's term
abbrev pub envelope : Rpc → Envelope
envelope (Vote m) = record { from = m.from; to = m.to; term = m.term }
envelope (Voted m) = record { from = m.from; to = m.to; term = m.term }
envelope (Append m) = record { from = m.from; to = m.to; term = m.term }
envelope (Appended m) = record { from = m.from; to = m.to; term = m.term }
envelope (Install m) = record { from = m.from; to = m.to; term = m.term }
envelope (Installed m) = record { from = m.from; to = m.to; term = m.term }

abbrev pub kind : Rpc → ℕ
kind (Vote m) = kinds.VOTE
kind (Voted m) = kinds.VOTED
kind (Append m) = kinds.APPEND
kind (Appended m) = kinds.APPENDED
kind (Install m) = kinds.INSTALL
kind (Installed m) = kinds.INSTALLED

abbrev pub IsNode : NodeId → Type 0
IsNode node = (1 ≤ node.0) × (node.0 ≤ NODE_LIMIT)

abbrev pub IsEnvelope : Envelope → Type 0
IsEnvelope e = IsNode e.from × IsNode e.to × IsLong e.term.0

-- the fields behind the envelope are in range, and entries have their content
abbrev pub HasFields : Rpc → Type 0
HasFields (Vote m) = IsLong m.last_index.0 × IsLong m.last_term.0
HasFields (Voted m) = ⊤
HasFields (Append m) =
    IsLong m.prev_index.0 × IsLong m.prev_term.0 × IsLong m.commit.0 × All IsEntry m.entries × (length m.entries < 2 ^ 32)
HasFields (Appended m) = IsLong m.index.0
HasFields (Install m) = IsLong m.index.0 × IsLong m.last_term.0 × IsLong m.through.0 × (length m.shadow < 2 ^ 32)
HasFields (Installed m) = IsLong m.index.0

-- what has bytes
pub record IsWritable (r : Rpc) : Type 0 where
  pub envelope : IsEnvelope (envelope r)
  pub fields : HasFields r
