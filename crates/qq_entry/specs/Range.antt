-- Which entries the log of a queue may hold.
use Rattle.std.specs.Prelude.{◌≡◌, ◌<◌, ◌≤◌, ◌^◌, ℕ, List, length, All, IfSome, IsSomeAnd, ⊤}
use Rattle.std.specs.Str.{IsUtf8}
use Rattle.qq_base.specs.declared.ids.TheConstants.{CLIENT, DEAD_LETTER}
use Rattle.qq_base.specs.declared.ids.QueueId.{QueueId}
use Rattle.qq_base.specs.declared.ids.SessionId.{SessionId}
use Rattle.qq_entry.specs.declared.limits.TheConstants.{MACHINE_VERSION, TERM_LIMIT, BODY_LIMIT, KEY_LIMIT, DEATHS_LIMIT, IDS_LIMIT, DEAD_DONE_LIMIT, TARGETS_LIMIT}
use Rattle.qq_entry.specs.declared.message.Death.{Death}
use Rattle.qq_entry.specs.declared.message.Content.{Content}
use Rattle.qq_entry.specs.declared.message.Message.{Message}
use Rattle.qq_entry.specs.declared.message.Origin.{Origin}
use Rattle.qq_entry.specs.declared.command.Stamp.{Stamp}
use Rattle.qq_entry.specs.declared.command.Mode.{Mode}
use Rattle.qq_entry.specs.declared.command.Mode.TheVariants.{Prefetch, Link}
use Rattle.qq_entry.specs.declared.command.DeadDone.{DeadDone}
use Rattle.qq_entry.specs.declared.command.Command.{Command}
use Rattle.qq_entry.specs.declared.command.Command.TheVariants.{Noop, Enqueue, Get, Subscribe, Cancel, Credit, Settle, Return, Discard, Purge, Down, DeadAttach, DeadSettle}
use Rattle.qq_entry.specs.declared.command.Entry.{Entry}

-- a number from 1 that has so many bits
abbrev pub IsPositive : ℕ → ℕ → Type 0
IsPositive bits n = (0 < n) × (n < 2 ^ bits)

-- A client has owner 0. The other classes have the queue whose dead letters they bring.
pub record IsSession (s : SessionId) : Type 0 where
  pub class : (CLIENT ≤ s.class) × (s.class ≤ DEAD_LETTER)
  pub client : s.class ≡ CLIENT → s.owner ≡ 0
  pub owned : CLIENT < s.class → 0 < s.owner
  pub owner : s.owner < 2 ^ 32
  pub number : IsPositive 64 s.number

-- Clients and workers number their commands from 1. Dead letters that are sent at most once have 0.
pub record IsStamp (s : Stamp) : Type 0 where
  pub session : IsSession s.session
  pub counted : s.session.class < DEAD_LETTER → 0 < s.seq
  pub uncounted : s.session.class ≡ DEAD_LETTER → s.seq ≡ 0
  pub seq : s.seq < 2 ^ 64
  pub done : s.done < 2 ^ 64

-- the stamp of a command that only sessions with numbers give
abbrev pub IsCounted : Stamp → Type 0
IsCounted s = IsStamp s × (s.session.class < DEAD_LETTER)

abbrev pub IsQueue : QueueId → Type 0
IsQueue q = IsPositive 32 q.0

abbrev pub IsDeath : Death → Type 0
IsDeath d = IsQueue d.queue

pub record IsContent (c : Content) : Type 0 where
  pub body : length c.body ≤ BODY_LIMIT
  pub key : length c.key ≤ KEY_LIMIT
  pub text : IsUtf8 c.key
  pub deaths : length c.deaths ≤ DEATHS_LIMIT
  pub each : All IsDeath c.deaths

abbrev pub IsOrigin : Origin → Type 0
IsOrigin o = IsQueue o.source × IsPositive 64 o.number

abbrev pub IsMode : Mode → Type 0
IsMode (Prefetch count) = count < 2 ^ 16
IsMode Link = ⊤

abbrev pub AreIds : List ℕ → Type 0
AreIds ids = (0 < length ids) × (length ids ≤ IDS_LIMIT) × All (IsPositive 64) ids

pub record IsDeadDone (d : DeadDone) : Type 0 where
  pub number : IsPositive 64 d.number
  pub targets : length d.targets ≤ TARGETS_LIMIT
  pub each : All IsQueue d.targets

abbrev pub AreDeadDones : List DeadDone → Type 0
AreDeadDones ds = (0 < length ds) × (length ds ≤ DEAD_DONE_LIMIT) × All IsDeadDone ds

-- a command of a session's consumer
abbrev pub IsOfConsumer : Stamp → ℕ → Type 0
IsOfConsumer stamp tag = IsCounted stamp × IsPositive 32 tag

abbrev pub IsCommand : Command → Type 0
IsCommand (Noop version) = version ≡ MACHINE_VERSION
IsCommand (Enqueue stamp origin message) = IsStamp stamp × IfSome origin IsOrigin × IfSome message.content IsContent
IsCommand (Get stamp) = IsCounted stamp
IsCommand (Subscribe stamp tag mode) = IsOfConsumer stamp tag × IsMode mode
IsCommand (Cancel stamp tag) = IsOfConsumer stamp tag
IsCommand (Credit stamp tag count credit drain) = IsOfConsumer stamp tag × (count < 2 ^ 32) × (credit < 2 ^ 32)
IsCommand (Settle stamp tag ids) = IsOfConsumer stamp tag × AreIds ids
IsCommand (Return stamp tag ids) = IsOfConsumer stamp tag × AreIds ids
IsCommand (Discard stamp tag ids) = IsOfConsumer stamp tag × AreIds ids
IsCommand (Purge stamp) = IsCounted stamp
IsCommand (Down session) = IsSession session × (session.class < DEAD_LETTER)
IsCommand (DeadAttach term) = term.0 ≤ TERM_LIMIT
IsCommand (DeadSettle term done) = (term.0 < 2 ^ 64) × AreDeadDones done

pub record IsInRange (e : Entry) : Type 0 where
  pub term : e.term.0 < 2 ^ 64
  pub time : e.time < 2 ^ 64
  pub command : IsCommand e.command

-- a message that has its content, and whose size is that of the body
abbrev pub IsWhole : Message → Type 0
IsWhole m = IsSomeAnd m.content (λ c. m.size ≡ length c.body)

abbrev pub HasContent : Command → Type 0
HasContent (Enqueue stamp origin message) = IsWhole message
HasContent _ = ⊤

-- what has bytes
pub record IsWritable (e : Entry) : Type 0 where
  pub range : IsInRange e
  pub content : HasContent e.command
