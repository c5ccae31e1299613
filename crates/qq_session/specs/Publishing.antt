-- How a client numbers its commands for one queue (Ongaro's dissertation, section 6.3).
use Rattle.std.specs.Prelude.{◌≡◌, ℕ, ◌+◌, ◌-◌, ◌<◌, List, [], ◌∷◌, ◌++◌, Bool, true, false, not, ◌&&◌, nat_eq, length, filter, if◌then◌else◌}
use Rattle.std.specs.Map.{values_of}
use Rattle.std.specs.List.{list_any}
use Rattle.qq_base.specs.declared.ids.SessionId.{SessionId}
use Rattle.qq_base.specs.declared.ids.QueueId.{QueueId}
use Rattle.qq_base.specs.declared.memory.TheConstants.{NUMBER_END}
use Rattle.qq_base.specs.Causes.{SpentOnlyWhere}
use Rattle.qq_entry.specs.declared.command.Stamp.{Stamp}
use Rattle.qq_entry.specs.declared.command.Command.{Command}
use Rattle.qq_entry.specs.declared.command.Command.TheVariants as commands
use Rattle.qq_entry.specs.declared.command.Unstamped.{Unstamped}
use Rattle.qq_entry.specs.declared.command.Unstamped.TheVariants as bodies
use Rattle.qq_entry.specs.declared.answer.Answer.{Answer}
use Rattle.qq_entry.specs.declared.answer.Answer.TheVariants.{Gap, WindowFull, SessionsFull}
use Rattle.qq_model.specs.declared.TheConstants.{WINDOW}
use Rattle.qq_session.specs.declared.publishing.HandFault.{HandFault}
use Rattle.qq_session.specs.declared.publishing.HandFault.TheVariants as faults

-- a number and its command
abbrev pub OpenCommand : Type 0
OpenCommand = ℕ × Command

-- whose commands they are, for which queue, the number of the next one, and those that aren't answered, in order
pub record Numbers : Type 0 where
  pub session : SessionId
  pub queue : QueueId
  pub next : ℕ
  pub opened : List OpenCommand

abbrev pub new_numbers : SessionId → QueueId → Numbers
new_numbers session queue = record { session = session; queue = queue; next = 1; opened = [] }

-- The low mark is the number before the first open one, or before the next where none is open: it and all numbers
-- below it are answered, and the number behind it isn't.
abbrev pub mark_before : ℕ → List OpenCommand → ℕ
mark_before next [] = next - 1
mark_before next (first ∷ more) = first.0 - 1

abbrev pub low_mark : Numbers → ℕ
low_mark n = mark_before n.next n.opened

-- ---- a command gets the next number

abbrev pub next_stamp : Numbers → Stamp
next_stamp n = record { session = n.session; seq = n.next; done = low_mark n }

abbrev pub stamped : Stamp → Unstamped → Command
stamped by (bodies.Enqueue origin message) = commands.Enqueue by origin message
stamped by bodies.Get = commands.Get by
stamped by (bodies.Subscribe tag mode) = commands.Subscribe by tag mode
stamped by (bodies.Cancel tag) = commands.Cancel by tag
stamped by (bodies.Credit tag count credit drain) = commands.Credit by tag count credit drain
stamped by (bodies.Settle tag ids) = commands.Settle by tag ids
stamped by (bodies.Return tag ids) = commands.Return by tag ids
stamped by (bodies.Discard tag ids) = commands.Discard by tag ids
stamped by bodies.Purge = commands.Purge by

abbrev pub next_command : Unstamped → Numbers → Command
next_command body n = stamped (next_stamp n) body

-- the numbers with one more open
abbrev pub hand : Unstamped → Numbers → Numbers
hand body n = record n { next = n.next + 1; opened = n.opened ++ (n.next, next_command body n) ∷ [] }

-- as many numbers are open as may be
abbrev pub IsFull : Numbers → Type 0
IsFull n = length n.opened ≡ WINDOW

-- why a command gets no number: its window is full, or else the next number is at its end
abbrev pub HasHandCause : HandFault → Numbers → Type 0
HasHandCause faults.WindowFull n = IsFull n
HasHandCause (faults.Memory memory) n =
    SpentOnlyWhere memory NUMBER_END ((length n.opened < WINDOW) × (n.next ≡ NUMBER_END))

-- ---- a number is answered

-- the first open number is this one
abbrev pub is_first : ℕ → List OpenCommand → Bool
is_first seq [] = false
is_first seq (one ∷ more) = nat_eq one.0 seq

abbrev pub is_open_in : ℕ → List OpenCommand → Bool
is_open_in seq open' = list_any (λ (one : OpenCommand). nat_eq one.0 seq) open'

abbrev pub is_open : ℕ → Numbers → Bool
is_open seq n = is_open_in seq n.opened

-- whether an answer closes its number: where the gate let nothing in, the command is to be sent again
abbrev pub closes : Answer → Bool
closes (Gap next) = false
closes WindowFull = false
closes SessionsFull = false
closes _ = true

abbrev pub without : ℕ → List OpenCommand → List OpenCommand
without seq open' = filter (λ (one : OpenCommand). not (nat_eq one.0 seq)) open'

-- the first answer of a number closes it
abbrev pub is_first_answer : ℕ → Answer → Numbers → Bool
is_first_answer seq answer n = is_open seq n && closes answer

abbrev pub answer : ℕ → Answer → Numbers → Numbers
answer seq given n = if closes given then record n { opened = without seq n.opened } else n

-- ---- what is sent again

abbrev pub open_commands : Numbers → List Command
open_commands n = values_of n.opened
