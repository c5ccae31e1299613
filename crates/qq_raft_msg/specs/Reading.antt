-- Reading a message from a prefix of bytes, field by field, with the first refusal that applies. Bytes that end before
-- the message does are too short.
use Rattle.std.specs.Prelude.{◌≡◌, ◌-◌, ℕ, Bool, List, length, take, Result, Ok, Err, nat_lt, nat_le, ◌==◌, ◌&&◌, if◌then◌else◌}
use Rattle.std.specs.Int.{Width, w8, w32, w64}
use Rattle.qq_base.specs.declared.ids.NodeId.{NodeId}
use Rattle.qq_command.specs.declared.refusal.Refusal.{Refusal}
use Rattle.qq_command.specs.declared.refusal.Refusal.TheVariants.{Short, BadKind, BadField}
use Rattle.qq_fields.specs.Reading as fields
use Rattle.qq_fields.specs.Reading.{◌>>=◌}
use Rattle.qq_command.specs.Reading.{Field, checked, entries_at}
use Rattle.qq_log.specs.declared.limits.TheConstants.{NODE_LIMIT}
use Rattle.qq_raft_msg.specs.declared.envelope.Envelope.{Envelope}
use Rattle.qq_raft_msg.specs.declared.kinds.TheConstants as kinds
use Rattle.qq_raft_msg.specs.declared.rpc.Rpc.{Rpc}
use Rattle.qq_raft_msg.specs.declared.rpc.Rpc.TheVariants.{Vote, Voted, Append, Appended, Install, Installed}
use Rattle.qq_raft_msg.specs.Rpc.{IsWritable}
use Rattle.qq_raft_msg.specs.Encoding.{encoding}

abbrev pub number_at : Width → List ℕ → Field ℕ
number_at w bytes = fields.number_at Short w bytes

abbrev pub bytes_at : ℕ → List ℕ → Field (List ℕ)
bytes_at n bytes = fields.bytes_at Short n bytes

abbrev pub flag_at : List ℕ → Field Bool
flag_at bytes = fields.flag_at Short BadField bytes

abbrev pub is_kind : ℕ → Bool
is_kind n = nat_lt 0 n && nat_le n kinds.INSTALLED

unfoldable pub kind_at : List ℕ → Field ℕ
kind_at bytes = do
  n ← number_at w8 bytes
  if is_kind n.0 then Ok n else Err BadKind

abbrev pub is_node : ℕ → Bool
is_node n = nat_lt 0 n && nat_le n NODE_LIMIT

unfoldable pub node_at : List ℕ → Field NodeId
node_at bytes = do
  n ← checked is_node (number_at w8 bytes)
  Ok (record { 0 = n.0 }, n.1)

unfoldable pub envelope_at : List ℕ → Field Envelope
envelope_at bytes = do
  from ← node_at bytes
  to ← node_at from.1
  term ← number_at w64 to.1
  Ok (record { from = from.0; to = to.0; term = record { 0 = term.0 } }, term.1)

-- a length, and so many bytes
unfoldable pub shadow_at : List ℕ → Field (List ℕ)
shadow_at bytes = do
  len ← number_at w32 bytes
  bytes_at len.0 len.1

-- ---- what follows an envelope

unfoldable pub vote_at : Envelope → List ℕ → Field Rpc
vote_at e bytes = do
  index ← number_at w64 bytes
  term ← number_at w64 index.1
  Ok (
    Vote (record {
      from = e.from;
      to = e.to;
      term = e.term;
      last_index = record { 0 = index.0 };
      last_term = record { 0 = term.0 };
    }),
    term.1,
  )

unfoldable pub voted_at : Envelope → List ℕ → Field Rpc
voted_at e bytes = do
  granted ← flag_at bytes
  Ok (Voted (record { from = e.from; to = e.to; term = e.term; granted = granted.0 }), granted.1)

unfoldable pub append_at : Envelope → List ℕ → Field Rpc
append_at e bytes = do
  index ← number_at w64 bytes
  term ← number_at w64 index.1
  commit ← number_at w64 term.1
  entries ← entries_at commit.1
  Ok (
    Append (record {
      from = e.from;
      to = e.to;
      term = e.term;
      prev_index = record { 0 = index.0 };
      prev_term = record { 0 = term.0 };
      commit = record { 0 = commit.0 };
      entries = entries.0;
    }),
    entries.1,
  )

unfoldable pub appended_at : Envelope → List ℕ → Field Rpc
appended_at e bytes = do
  ok ← flag_at bytes
  index ← number_at w64 ok.1
  Ok (
    Appended (record { from = e.from; to = e.to; term = e.term; ok = ok.0; index = record { 0 = index.0 } }),
    index.1,
  )

unfoldable pub install_at : Envelope → List ℕ → Field Rpc
install_at e bytes = do
  index ← number_at w64 bytes
  term ← number_at w64 index.1
  through ← number_at w64 term.1
  shadow ← shadow_at through.1
  Ok (
    Install (record {
      from = e.from;
      to = e.to;
      term = e.term;
      index = record { 0 = index.0 };
      last_term = record { 0 = term.0 };
      through = record { 0 = through.0 };
      shadow = shadow.0;
    }),
    shadow.1,
  )

unfoldable pub installed_at : Envelope → List ℕ → Field Rpc
installed_at e bytes = do
  index ← number_at w64 bytes
  Ok (Installed (record { from = e.from; to = e.to; term = e.term; index = record { 0 = index.0 } }), index.1)

unfoldable pub fields_at : ℕ → Envelope → List ℕ → Field Rpc
fields_at kind e bytes =
    if kind == kinds.VOTE then vote_at e bytes
    else if kind == kinds.VOTED then voted_at e bytes
    else if kind == kinds.APPEND then append_at e bytes
    else if kind == kinds.APPENDED then appended_at e bytes
    else if kind == kinds.INSTALL then install_at e bytes
    else installed_at e bytes

-- ---- messages

-- the message that is a prefix, and the bytes behind it
unfoldable pub rpc_at : List ℕ → Field Rpc
rpc_at bytes = do
  kind ← kind_at bytes
  envelope ← envelope_at kind.1
  fields_at kind.0 envelope.0 envelope.1

-- the message that is a prefix, and how many bytes it takes
unfoldable pub message_at : List ℕ → Result (Rpc × ℕ) Refusal
message_at bytes = do
  x ← rpc_at bytes
  Ok (x.0, length bytes - length x.1)

-- what was read: a message in range, whose encoding is a prefix of the bytes and as long as said
pub record IsRpcPrefix (bytes : List ℕ) (x : Rpc × ℕ) : Type 0 where
  pub writable : IsWritable x.0
  pub is : take x.1 bytes ≡ encoding x.0
  pub len : x.1 ≡ length (encoding x.0)
