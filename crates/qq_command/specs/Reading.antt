-- Reading an entry from a prefix of bytes, field by field, with the first refusal that applies.
use Rattle.std.specs.Prelude.{◌≡◌, ◌+◌, ℕ, Bool, List, length, take, drop, Option, Some, None, Result, Ok, Err, nat_lt, nat_le, ◌==◌, ◌&&◌, if◌then◌else◌}
use Rattle.std.specs.Str.{is_utf8}
use Rattle.std.specs.Int.{Width, w8, w16, w32, w64}
use Rattle.qq_base.specs.declared.ids.TheConstants.{CLIENT, DEAD_LETTER}
use Rattle.qq_base.specs.declared.ids.QueueId.{QueueId}
use Rattle.qq_base.specs.declared.ids.SessionId.{SessionId}
use Rattle.qq_base.specs.declared.memory.Memory.{Memory as Cause}
use Rattle.qq_fields.specs.Reading as fields
use Rattle.qq_fields.specs.Reading.{◌>>=◌, required, many}
use Rattle.qq_entry.specs.declared.limits.TheConstants.{MACHINE_VERSION, TERM_LIMIT, LENGTH_LIMIT, BODY_LIMIT, DEATHS_LIMIT, IDS_LIMIT, DEAD_DONE_LIMIT, TARGETS_LIMIT}
use Rattle.qq_command.specs.declared.kinds.TheConstants as kinds
use Rattle.qq_command.specs.declared.lengths.TheConstants.{HEAD_LEN}
use Rattle.qq_command.specs.declared.reasons.TheConstants as reasons
use Rattle.qq_command.specs.declared.refusal.Refusal.{Refusal}
use Rattle.qq_command.specs.declared.refusal.Refusal.TheVariants.{Short, BadKind, BadField, TooLarge, Memory}
use Rattle.qq_entry.specs.declared.message.Reason.{Reason}
use Rattle.qq_entry.specs.declared.message.Reason.TheVariants.{Rejected, Expired, MaxLen, DeliveryLimit}
use Rattle.qq_entry.specs.declared.message.Death.{Death}
use Rattle.qq_entry.specs.declared.message.Message.{Message}
use Rattle.qq_entry.specs.declared.message.Origin.{Origin}
use Rattle.qq_entry.specs.declared.command.Stamp.{Stamp}
use Rattle.qq_entry.specs.declared.command.Mode.{Mode}
use Rattle.qq_entry.specs.declared.command.Mode.TheVariants.{Prefetch, Link}
use Rattle.qq_entry.specs.declared.command.DeadDone.{DeadDone}
use Rattle.qq_entry.specs.declared.command.Command.{Command}
use Rattle.qq_entry.specs.declared.command.Command.TheVariants.{Noop, Enqueue, Get, Subscribe, Cancel, Credit, Settle, Return, Discard, Purge, Down, DeadAttach, DeadSettle}
use Rattle.qq_entry.specs.declared.command.Entry.{Entry}
use Rattle.qq_entry.specs.Message.{new_message}
use Rattle.qq_entry.specs.Range.{IsWritable}
use Rattle.qq_command.specs.Encoding.{encoding}

-- The memory that a refusal is for want of.
abbrev pub memory_of : Refusal → Option Cause
memory_of (Memory m) = Some m
memory_of _ = None

-- What a call answered is what reading gives, unless memory ran out.
abbrev pub Gives : {X Y : Type 0} → (X → Y) → Result X Refusal → Result Y Refusal → Type 0
Gives view answered read = fields.Gives memory_of view answered read

-- A field is a value and the bytes after it. One that passes the end of its entry's length is out of range.
abbrev pub Field : Type 0 → Type 0
Field A = fields.Field Refusal A

abbrev pub number_at : Width → List ℕ → Field ℕ
number_at w bytes = fields.number_at BadField w bytes

abbrev pub bytes_at : ℕ → List ℕ → Field (List ℕ)
bytes_at n bytes = fields.bytes_at BadField n bytes

abbrev pub flag_at : List ℕ → Field Bool
flag_at bytes = fields.flag_at BadField BadField bytes

abbrev pub checked : {A : Type 0} → (A → Bool) → Field A → Field A
checked passes read = fields.checked BadField passes read

-- a number from 1
unfoldable pub positive_at : Width → List ℕ → Field ℕ
positive_at w bytes = checked (λ n. nat_lt 0 n) (number_at w bytes)

abbrev pub has_owner : SessionId → Bool
has_owner s =
    if s.class == CLIENT then s.owner == 0
    else (nat_lt CLIENT s.class && nat_le s.class DEAD_LETTER && nat_lt 0 s.owner)

unfoldable pub session_at : List ℕ → Field SessionId
session_at bytes = checked has_owner (do
  class ← number_at w8 bytes
  owner ← number_at w32 class.1
  number ← positive_at w64 owner.1
  Ok (record { class = class.0; owner = owner.0; number = number.0 }, number.1))

abbrev pub is_counted : SessionId → Bool
is_counted s = nat_lt s.class DEAD_LETTER

abbrev pub has_seq : Stamp → Bool
has_seq s = if is_counted s.session then nat_lt 0 s.seq else s.seq == 0

unfoldable pub stamp_at : List ℕ → Field Stamp
stamp_at bytes = checked has_seq (do
  session ← session_at bytes
  seq ← number_at w64 session.1
  done ← number_at w64 seq.1
  Ok (record { session = session.0; seq = seq.0; done = done.0 }, done.1))

unfoldable pub counted_at : List ℕ → Field Stamp
counted_at bytes = checked (λ s. is_counted s.session) (stamp_at bytes)

unfoldable pub queue_at : List ℕ → Field QueueId
queue_at bytes = do
  n ← positive_at w32 bytes
  Ok (record { 0 = n.0 }, n.1)

unfoldable pub origin_at : List ℕ → Field (Option Origin)
origin_at bytes = do
  is_there ← flag_at bytes
  if is_there.0 then (do
    source ← queue_at is_there.1
    number ← positive_at w64 source.1
    Ok (Some (record { source = source.0; number = number.0 }), number.1)) else Ok (None, is_there.1)

unfoldable pub body_at : List ℕ → Field (List ℕ)
body_at bytes = do
  n ← number_at w32 bytes
  if nat_lt BODY_LIMIT n.0 then Err TooLarge else bytes_at n.0 n.1

unfoldable pub key_at : List ℕ → Field (List ℕ)
key_at bytes = do
  n ← number_at w8 bytes
  checked is_utf8 (bytes_at n.0 n.1)

abbrev pub reason_of : ℕ → Option Reason
reason_of n =
    if n == reasons.REJECTED then Some Rejected
    else if n == reasons.EXPIRED then Some Expired
    else if n == reasons.MAX_LEN then Some MaxLen
    else if n == reasons.DELIVERY_LIMIT then Some DeliveryLimit
    else None

unfoldable pub death_at : List ℕ → Field Death
death_at bytes = do
  queue ← queue_at bytes
  n ← number_at w8 queue.1
  reason ← required BadField (reason_of n.0)
  Ok (record { queue = queue.0; reason = reason }, n.1)

unfoldable pub deaths_at : List ℕ → Field (List Death)
deaths_at bytes = do
  n ← number_at w16 bytes
  if nat_lt DEATHS_LIMIT n.0 then Err TooLarge else many death_at n.0 n.1

unfoldable pub message_at : List ℕ → Field Message
message_at bytes = do
  body ← body_at bytes
  key ← key_at body.1
  deaths ← deaths_at key.1
  Ok (new_message (record { body = body.0; key = key.0; deaths = deaths.0 }), deaths.1)

unfoldable pub mode_at : List ℕ → Field Mode
mode_at bytes = do
  is_link ← flag_at bytes
  count ← number_at w16 is_link.1
  if is_link.0 then (if count.0 == 0 then Ok (Link, count.1) else Err BadField) else Ok (Prefetch count.0, count.1)

unfoldable pub ids_at : List ℕ → Field (List ℕ)
ids_at bytes = do
  n ← number_at w32 bytes
  if nat_lt IDS_LIMIT n.0 then Err TooLarge else if n.0 == 0 then Err BadField else many (positive_at w64) n.0 n.1

unfoldable pub dead_done_at : List ℕ → Field DeadDone
dead_done_at bytes = do
  number ← positive_at w64 bytes
  n ← checked (λ n. nat_le n TARGETS_LIMIT) (number_at w16 number.1)
  targets ← many queue_at n.0 n.1
  Ok (record { number = number.0; targets = targets.0 }, targets.1)

unfoldable pub dead_dones_at : List ℕ → Field (List DeadDone)
dead_dones_at bytes = do
  n ← checked (λ n. nat_lt 0 n && nat_le n DEAD_DONE_LIMIT) (number_at w16 bytes)
  many dead_done_at n.0 n.1

-- a stamp, and the tag of a consumer
unfoldable pub consumer_at : List ℕ → Field (Stamp × ℕ)
consumer_at bytes = do
  stamp ← counted_at bytes
  tag ← positive_at w32 stamp.1
  Ok ((stamp.0, tag.0), tag.1)

unfoldable pub noop_at : List ℕ → Field Command
noop_at bytes = do
  version ← checked (λ n. n == MACHINE_VERSION) (number_at w8 bytes)
  Ok (Noop version.0, version.1)

unfoldable pub enqueue_at : List ℕ → Field Command
enqueue_at bytes = do
  stamp ← stamp_at bytes
  origin ← origin_at stamp.1
  message ← message_at origin.1
  Ok (Enqueue stamp.0 origin.0 message.0, message.1)

unfoldable pub get_at : List ℕ → Field Command
get_at bytes = do
  stamp ← counted_at bytes
  Ok (Get stamp.0, stamp.1)

unfoldable pub subscribe_at : List ℕ → Field Command
subscribe_at bytes = do
  x ← consumer_at bytes
  mode ← mode_at x.1
  Ok (Subscribe x.0.0 x.0.1 mode.0, mode.1)

unfoldable pub cancel_at : List ℕ → Field Command
cancel_at bytes = do
  x ← consumer_at bytes
  Ok (Cancel x.0.0 x.0.1, x.1)

unfoldable pub credit_at : List ℕ → Field Command
credit_at bytes = do
  x ← consumer_at bytes
  count ← number_at w32 x.1
  credit ← number_at w32 count.1
  drain ← flag_at credit.1
  Ok (Credit x.0.0 x.0.1 count.0 credit.0 drain.0, drain.1)

-- a stamp, a tag and ids
unfoldable pub verdict_at : List ℕ → Field (Stamp × ℕ × List ℕ)
verdict_at bytes = do
  x ← consumer_at bytes
  ids ← ids_at x.1
  Ok ((x.0.0, x.0.1, ids.0), ids.1)

unfoldable pub settle_at : List ℕ → Field Command
settle_at bytes = do
  x ← verdict_at bytes
  Ok (Settle x.0.0 x.0.1 x.0.2, x.1)

unfoldable pub return_at : List ℕ → Field Command
return_at bytes = do
  x ← verdict_at bytes
  Ok (Return x.0.0 x.0.1 x.0.2, x.1)

unfoldable pub discard_at : List ℕ → Field Command
discard_at bytes = do
  x ← verdict_at bytes
  Ok (Discard x.0.0 x.0.1 x.0.2, x.1)

unfoldable pub purge_at : List ℕ → Field Command
purge_at bytes = do
  stamp ← counted_at bytes
  Ok (Purge stamp.0, stamp.1)

unfoldable pub down_at : List ℕ → Field Command
down_at bytes = do
  session ← checked is_counted (session_at bytes)
  Ok (Down session.0, session.1)

unfoldable pub dead_attach_at : List ℕ → Field Command
dead_attach_at bytes = do
  term ← checked (λ n. nat_le n TERM_LIMIT) (number_at w64 bytes)
  Ok (DeadAttach (record { 0 = term.0 }), term.1)

unfoldable pub dead_settle_at : List ℕ → Field Command
dead_settle_at bytes = do
  term ← number_at w64 bytes
  done ← dead_dones_at term.1
  Ok (DeadSettle (record { 0 = term.0 }) done.0, done.1)

unfoldable pub fields_at : ℕ → List ℕ → Field Command
fields_at number bytes =
    if number == kinds.NOOP then noop_at bytes
    else if number == kinds.ENQUEUE then enqueue_at bytes
    else if number == kinds.GET then get_at bytes
    else if number == kinds.SUBSCRIBE then subscribe_at bytes
    else if number == kinds.CANCEL then cancel_at bytes
    else if number == kinds.CREDIT then credit_at bytes
    else if number == kinds.SETTLE then settle_at bytes
    else if number == kinds.RETURN then return_at bytes
    else if number == kinds.DISCARD then discard_at bytes
    else if number == kinds.PURGE then purge_at bytes
    else if number == kinds.DOWN then down_at bytes
    else if number == kinds.DEAD_ATTACH then dead_attach_at bytes
    else if number == kinds.DEAD_SETTLE then dead_settle_at bytes
    else Err BadKind

-- the time and the command, which take all of the bytes
unfoldable pub payload_at : List ℕ → Result (ℕ × Command) Refusal
payload_at bytes = do
  time ← number_at w64 bytes
  number ← number_at w8 time.1
  command ← fields_at number.0 number.1
  if length command.1 == 0 then Ok (time.0, command.0) else Err BadField

-- the entry that is a prefix, and how many bytes it takes
unfoldable pub entry_at : List ℕ → Result (Entry × ℕ) Refusal
entry_at bytes = if nat_lt (length bytes) HEAD_LEN then Err Short else do
  term ← number_at w64 bytes
  len ← number_at w32 term.1
  if nat_lt LENGTH_LIMIT len.0 then Err TooLarge else if nat_lt (length len.1) len.0 then Err Short else do
    x ← payload_at (take len.0 len.1)
    Ok (record { term = record { 0 = term.0 }; time = x.0; command = x.1 }, HEAD_LEN + len.0)

-- what was read: an entry with its content in range, whose encoding is a prefix of the bytes and as long as said
pub record IsEntryPrefix (bytes : List ℕ) (x : Entry × ℕ) : Type 0 where
  pub writable : IsWritable x.0
  pub is : take x.1 bytes ≡ encoding x.0
  pub len : x.1 ≡ length (encoding x.0)

-- ---- entries one behind the other

-- an entry, and the bytes behind it
unfoldable pub entry_field_at : List ℕ → Field Entry
entry_field_at bytes = do
  x ← entry_at bytes
  Ok (x.0, drop x.1 bytes)

-- a count in four bytes, and so many entries
unfoldable pub entries_at : List ℕ → Field (List Entry)
entries_at bytes = fields.list_at Short entry_field_at bytes
