-- The one encoding of each entry. Numbers have their high byte first.
use Rattle.std.specs.Prelude.{ℕ, true, false, List, [], ◌++◌, length, Option, Some, None}
use Rattle.std.specs.List.{flat_map}
use Rattle.qq_base.specs.declared.ids.QueueId.{QueueId}
use Rattle.qq_base.specs.declared.ids.SessionId.{SessionId}
use Rattle.qq_fields.specs.Writing.{u8, u16, u32, u64, flag, list}
use Rattle.qq_command.specs.declared.kinds.TheConstants as kinds
use Rattle.qq_command.specs.declared.reasons.TheConstants as reasons
use Rattle.qq_entry.specs.declared.message.Reason.{Reason}
use Rattle.qq_entry.specs.declared.message.Reason.TheVariants.{Rejected, Expired, MaxLen, DeliveryLimit}
use Rattle.qq_entry.specs.declared.message.Death.{Death}
use Rattle.qq_entry.specs.declared.message.Content.{Content}
use Rattle.qq_entry.specs.declared.message.Origin.{Origin}
use Rattle.qq_entry.specs.declared.command.Stamp.{Stamp}
use Rattle.qq_entry.specs.declared.command.Mode.{Mode}
use Rattle.qq_entry.specs.declared.command.Mode.TheVariants.{Prefetch, Link}
use Rattle.qq_entry.specs.declared.command.DeadDone.{DeadDone}
use Rattle.qq_entry.specs.declared.command.Command.{Command}
use Rattle.qq_entry.specs.declared.command.Command.TheVariants.{Noop, Enqueue, Get, Subscribe, Cancel, Credit, Settle, Return, Discard, Purge, Down, DeadAttach, DeadSettle}
use Rattle.qq_entry.specs.declared.command.Entry.{Entry}

abbrev pub kind : Command → ℕ
kind (Noop version) = kinds.NOOP
kind (Enqueue stamp origin message) = kinds.ENQUEUE
kind (Get stamp) = kinds.GET
kind (Subscribe stamp tag mode) = kinds.SUBSCRIBE
kind (Cancel stamp tag) = kinds.CANCEL
kind (Credit stamp tag count credit drain) = kinds.CREDIT
kind (Settle stamp tag ids) = kinds.SETTLE
kind (Return stamp tag ids) = kinds.RETURN
kind (Discard stamp tag ids) = kinds.DISCARD
kind (Purge stamp) = kinds.PURGE
kind (Down session) = kinds.DOWN
kind (DeadAttach term) = kinds.DEAD_ATTACH
kind (DeadSettle term done) = kinds.DEAD_SETTLE

abbrev pub reason_number : Reason → ℕ
reason_number Rejected = reasons.REJECTED
reason_number Expired = reasons.EXPIRED
reason_number MaxLen = reasons.MAX_LEN
reason_number DeliveryLimit = reasons.DELIVERY_LIMIT

unfoldable pub session : SessionId → List ℕ
session s = u8 s.class ++ u32 s.owner ++ u64 s.number

unfoldable pub stamp : Stamp → List ℕ
stamp s = session s.session ++ u64 s.seq ++ u64 s.done

unfoldable pub origin : Option Origin → List ℕ
origin None = flag false
origin (Some o) = flag true ++ u32 o.source.0 ++ u64 o.number

unfoldable pub body : List ℕ → List ℕ
body bytes = u32 (length bytes) ++ bytes

unfoldable pub key : List ℕ → List ℕ
key bytes = u8 (length bytes) ++ bytes

unfoldable pub death : Death → List ℕ
death d = u32 d.queue.0 ++ u8 (reason_number d.reason)

unfoldable pub deaths : List Death → List ℕ
deaths ds = u16 (length ds) ++ flat_map death ds

-- a content that was taken out has no bytes
unfoldable pub content : Option Content → List ℕ
content None = []
content (Some c) = body c.body ++ key c.key ++ deaths c.deaths

-- the prefetch count is 0 under link credit
unfoldable pub mode : Mode → List ℕ
mode (Prefetch count) = flag false ++ u16 count
mode Link = flag true ++ u16 0

unfoldable pub ids : List ℕ → List ℕ
ids ns = u32 (length ns) ++ flat_map u64 ns

abbrev pub queue : QueueId → List ℕ
queue q = u32 q.0

unfoldable pub dead_done : DeadDone → List ℕ
dead_done d = u64 d.number ++ u16 (length d.targets) ++ flat_map queue d.targets

unfoldable pub dead_dones : List DeadDone → List ℕ
dead_dones ds = u16 (length ds) ++ flat_map dead_done ds

unfoldable pub consumer : Stamp → ℕ → List ℕ
consumer s tag = stamp s ++ u32 tag

-- what follows a command's kind
unfoldable pub fields : Command → List ℕ
fields (Noop version) = u8 version
fields (Enqueue s o message) = stamp s ++ origin o ++ content message.content
fields (Get s) = stamp s
fields (Subscribe s tag m) = consumer s tag ++ mode m
fields (Cancel s tag) = consumer s tag
fields (Credit s tag count credit drain) = consumer s tag ++ u32 count ++ u32 credit ++ flag drain
fields (Settle s tag ns) = consumer s tag ++ ids ns
fields (Return s tag ns) = consumer s tag ++ ids ns
fields (Discard s tag ns) = consumer s tag ++ ids ns
fields (Purge s) = stamp s
fields (Down s) = session s
fields (DeadAttach term) = u64 term.0
fields (DeadSettle term ds) = u64 term.0 ++ dead_dones ds

-- what the length counts
unfoldable pub payload : Entry → List ℕ
payload e = u64 e.time ++ u8 (kind e.command) ++ fields e.command

unfoldable pub encoding : Entry → List ℕ
encoding e = u64 e.term.0 ++ u32 (length (payload e)) ++ payload e

-- a count in four bytes, and so many entries
unfoldable pub entries : List Entry → List ℕ
entries es = list encoding es
