-- Short runs of a new queue by a few clients, and what they show: for laws that say in numerals what others say by name.
use Rattle.std.specs.Prelude.{ℕ, List, [], ◌∷◌, map, filter_map, Option, Some, None}
use Rattle.qq_base.specs.declared.ids.SessionId.{SessionId}
use Rattle.qq_entry.specs.Queue.{default_args}
use Rattle.qq_entry.specs.declared.answer.Answer.{Answer}
use Rattle.qq_entry.specs.declared.audit.AuditRow.{AuditRow}
use Rattle.qq_entry.specs.declared.audit.Effect.{Effect}
use Rattle.qq_entry.specs.declared.audit.Effect.TheVariants.{Deliver, DeadOnce}
use Rattle.qq_entry.specs.declared.command.Command.{Command}
use Rattle.qq_entry.specs.declared.command.Command.TheVariants.{Enqueue, Get, Subscribe, Cancel, Return, Discard, Down}
use Rattle.qq_entry.specs.declared.command.Entry.{Entry}
use Rattle.qq_entry.specs.declared.command.Mode.TheVariants.{Prefetch}
use Rattle.qq_entry.specs.declared.command.Stamp.{Stamp}
use Rattle.qq_entry.specs.declared.message.Reason.{Reason}
use Rattle.qq_entry.specs.declared.queue.QueueArgs.{QueueArgs}
use Rattle.qq_model.specs.State.{State, Sessions, empty_queue}
use Rattle.qq_model.specs.Audit.{audit_of, effects_of, state_after}

-- Commands --------------------------------------------------------------------------------------------

abbrev pub client : ℕ → SessionId
client n = record { class = 1; owner = 0; number = n }

-- a client's command of a number, with nothing that it has seen answered
abbrev pub stamped : (n seq : ℕ) → Stamp
stamped n seq = record { session = client n; seq = seq; done = 0 }

-- client 1 publishes a message of so many bytes
abbrev pub publish : (seq size : ℕ) → Command
publish seq size = Enqueue (stamped 1 seq) None (record { size = size; content = None })

-- client 1 gets a message
abbrev pub get : (seq : ℕ) → Command
get seq = Get (stamped 1 seq)

-- what a client says of its one consumer
abbrev pub subscribe : (n seq prefetch : ℕ) → Command
subscribe n seq prefetch = Subscribe (stamped n seq) 1 (Prefetch prefetch)

abbrev pub cancel : (n seq : ℕ) → Command
cancel n seq = Cancel (stamped n seq) 1

abbrev pub give_back : (n seq : ℕ) → List ℕ → Command
give_back n seq ids = Return (stamped n seq) 1 ids

abbrev pub discard : (n seq : ℕ) → List ℕ → Command
discard n seq ids = Discard (stamped n seq) 1 ids

abbrev pub leave : (n : ℕ) → Command
leave n = Down (client n)

-- Queues ----------------------------------------------------------------------------------------------

-- a queue that was declared with no arguments
abbrev pub plain : QueueArgs
plain = default_args (record { 0 = 1 }) 1

-- Runs ------------------------------------------------------------------------------------------------

abbrev pub entry : Command → Entry
entry command = record { term = record { 0 = 1 }; time = 0; command = command }

-- the queue after commands
abbrev pub after : QueueArgs → List Command → State
after args commands = state_after (empty_queue args) (map entry commands)

-- the answers to commands
abbrev pub answers : QueueArgs → List Command → List Answer
answers args commands = map (λ (row : AuditRow). row.answer) (audit_of (empty_queue args) (map entry commands))

-- a delivery: to which client, of which publish, and how often it had been returned
pub record Shown : Type 0 where
  pub to : ℕ
  pub arrival : ℕ
  pub count : ℕ

abbrev pub shown : (to arrival count : ℕ) → Shown
shown to arrival count = record { to = to; arrival = arrival; count = count }

abbrev pub delivery_in : Effect → Option Shown
delivery_in (Deliver consumer delivery) = Some (shown consumer.session.number delivery.arrival delivery.count)
delivery_in _ = None

-- the deliveries of commands, in order
abbrev pub deliveries : QueueArgs → List Command → List Shown
deliveries args commands = filter_map delivery_in (effects_of (empty_queue args) (map entry commands))

-- a dead letter that is sent at most once: why, and of how many bytes
pub record Letter : Type 0 where
  pub reason : Reason
  pub size : ℕ

abbrev pub letter : Reason → ℕ → Letter
letter reason size = record { reason = reason; size = size }

abbrev pub letter_in : Effect → Option Letter
letter_in (DeadOnce reason message) = Some (letter reason message.size)
letter_in _ = None

-- the dead letters of commands, in order
abbrev pub letters : QueueArgs → List Command → List Letter
letters args commands = filter_map letter_in (effects_of (empty_queue args) (map entry commands))

-- the messages that commands deliver, in order
abbrev pub arrivals : QueueArgs → List Command → List ℕ
arrivals args commands = map (λ (one : Shown). one.arrival) (deliveries args commands)

-- Sessions --------------------------------------------------------------------------------------------

-- client 1 alone, with an open session of this low mark and next number
abbrev pub alone : (mark next : ℕ) → Sessions
alone mark next =
    record {
      opened = record { session = client 1; next = next; mark = mark; kept = []; tag = 0 } ∷ [];
      ended = [];
      workers = [];
      seen = 1;
    }

-- a stamp of client 1
abbrev pub by_client : (seq done : ℕ) → Stamp
by_client seq done = record { session = client 1; seq = seq; done = done }
