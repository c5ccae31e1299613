-- The clients of a queue: their sessions, and which answers come to them.
use Rattle.std.specs.Prelude.{ℕ, List, [], ◌∷◌, ◌++◌, Bool, false, not, ◌&&◌, ◌||◌, Option, Some, None, length, nat_lt, if◌then◌else◌}
use Rattle.qq_base.specs.Ids.{client, same_session}
use Rattle.qq_base.specs.declared.ids.QueueId.{QueueId}
use Rattle.qq_base.specs.declared.ids.SessionId.{SessionId}
use Rattle.qq_entry.specs.declared.command.Stamp.{Stamp}
use Rattle.qq_entry.specs.declared.command.Command.{Command}
use Rattle.qq_entry.specs.declared.command.Command.TheVariants as commands
use Rattle.qq_entry.specs.declared.audit.AuditRow.{AuditRow}
use Rattle.qq_entry.specs.declared.queue.QueueArgs.{QueueArgs}
use Rattle.qq_entry.specs.Command.{seq_of, stamp}
use Rattle.qq_model.specs.declared.TheConstants.{WINDOW}
use Rattle.qq_session.specs.Publishing.{Numbers, new_numbers, is_open, answer}
use Rattle.qq_base.specs.Fronts.{put}
use Rattle.qq_entry.specs.declared.command.Command.TheVariants.{Down}

-- a session of a client: its numbers at this queue, whether answers to it are lost, and whether it has ended
pub record Client : Type 0 where
  pub numbers : Numbers
  pub muted : Bool
  pub ended : Bool

-- the clients' sessions by their numbers
abbrev pub Clients : Type 0
Clients = ℕ → Client

abbrev pub new_client : SessionId → QueueId → Client
new_client session queue = record { numbers = new_numbers session queue; muted = false; ended = false }

abbrev pub new_clients : QueueArgs → Clients
new_clients args = λ session. new_client (client session) args.queue

-- which client's session a command is of, None where it is of none
abbrev pub sender_by : Option Stamp → Option ℕ
sender_by None = None
sender_by (Some given) =
    if same_session given.session (client given.session.number) then Some given.session.number else None

abbrev pub sender : AuditRow → Option ℕ
sender row = sender_by (stamp row.entry.command)

-- which client's session a command ends, None where it ends none
abbrev pub ended_by : Command → Option ℕ
ended_by (commands.Down session) =
    if same_session session (client session.number) then Some session.number else None
ended_by _ = None

-- a session takes the answer of a row, unless that is lost
abbrev pub take_answer : AuditRow → Client → Client
take_answer row c =
    if c.muted then c else record c { numbers = answer (seq_of row.entry.command) row.answer c.numbers }

abbrev pub hear_by : Option ℕ → AuditRow → Clients → Clients
hear_by None row clients = clients
hear_by (Some session) row clients = put session (take_answer row (clients session)) clients

abbrev pub hear : AuditRow → Clients → Clients
hear row clients = hear_by (sender row) row clients

abbrev pub hear_all : List AuditRow → Clients → Clients
hear_all [] clients = clients
hear_all (row ∷ rows) clients = hear_all rows (hear row clients)

-- an answer is printed where it isn't lost and its number is open: the first answer of a number
abbrev pub is_printed_to : Client → AuditRow → Bool
is_printed_to c row = not c.muted && is_open (seq_of row.entry.command) c.numbers

abbrev pub is_printed_by : Option ℕ → Clients → AuditRow → Bool
is_printed_by None clients row = false
is_printed_by (Some session) clients row = is_printed_to (clients session) row

-- the end of a session has no number: each answer to it is printed where it isn't lost
abbrev pub tells_end : Option ℕ → Clients → Bool
tells_end None clients = false
tells_end (Some session) clients = not (clients session).muted

abbrev pub is_printed : Clients → AuditRow → Bool
is_printed clients row =
    is_printed_by (sender row) clients row || tells_end (ended_by row.entry.command) clients

-- the rows whose answers are printed, each heard before the next
abbrev pub printed : List AuditRow → Clients → List AuditRow
printed [] clients = []
printed (row ∷ rows) clients = (if is_printed clients row then row ∷ [] else []) ++ printed rows (hear row clients)

-- a session may give a number: its window isn't full
abbrev pub may_hand : Numbers → Bool
may_hand n = nat_lt (length n.opened) WINDOW

-- a session has given a command
abbrev pub is_used : Numbers → Bool
is_used n = nat_lt 1 n.next
