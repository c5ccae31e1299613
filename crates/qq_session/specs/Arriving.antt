-- What becomes of a client's commands on their way: some are lost, and some arrive more than once.
use Rattle.std.specs.Prelude.{◌≡◌, ℕ, List, [], ◌∷◌, ◌++◌, Option, Some, None, nat_lt, length, take, filter_map, All, Contains, if◌then◌else◌}
use Rattle.qq_base.specs.declared.ids.SessionId.{SessionId}
use Rattle.qq_base.specs.declared.ids.QueueId.{QueueId}
use Rattle.qq_base.specs.Ids.{same_session}
use Rattle.qq_entry.specs.declared.command.Stamp.{Stamp}
use Rattle.qq_entry.specs.declared.command.Command.{Command}
use Rattle.qq_entry.specs.declared.command.Entry.{Entry}
use Rattle.qq_entry.specs.declared.command.Unstamped.{Unstamped}
use Rattle.qq_entry.specs.declared.answer.Answer.{Answer}
use Rattle.qq_entry.specs.declared.audit.AuditRow.{AuditRow}
use Rattle.qq_entry.specs.declared.queue.QueueArgs.{QueueArgs}
use Rattle.qq_entry.specs.Command.{stamp}
use Rattle.qq_model.specs.declared.TheConstants.{WINDOW}
use Rattle.qq_model.specs.Gate.{IsNumbered}
use Rattle.qq_laws.specs.Always.{queue_audit}
use Rattle.qq_session.specs.Publishing.{Numbers, new_numbers, next_command, hand, answer}

-- what a client does: it gives a command a number, or takes an answer
pub data Deed : Type 0 where
  Hands : (body : Unstamped) → Deed
  Takes : (seq : ℕ) (given : Answer) → Deed

-- the numbers after a deed; a full window hands out none
abbrev pub after_deed : Deed → Numbers → Numbers
after_deed (Hands body) n = if nat_lt (length n.opened) WINDOW then hand body n else n
after_deed (Takes seq given) n = answer seq given n

-- the command that is handed out
abbrev pub handed_by : Deed → Numbers → List Command
handed_by (Hands body) n = if nat_lt (length n.opened) WINDOW then next_command body n ∷ [] else []
handed_by (Takes seq given) n = []

-- all commands that a client hands out, in order
abbrev pub handed : Numbers → List Deed → List Command
handed n [] = []
handed n (deed ∷ deeds) = handed_by deed n ++ handed (after_deed deed n) deeds

-- Each command of a session among entries was handed out. So some may be lost, and each may come as often as it likes,
-- in any order, with commands of other sessions between.
abbrev pub WasHanded : SessionId → List Command → Entry → Type 0
WasHanded session commands entry =
    (given : Stamp) → stamp entry.command ≡ Some given → given.session ≡ session → Contains commands entry.command

-- the command of a row, where it is of this session and was carried out
abbrev pub of_session : SessionId → Command → Option Stamp → Option Command
of_session session command None = None
of_session session command (Some given) = if same_session given.session session then Some command else None

abbrev pub fresh_command : SessionId → AuditRow → Option Command
fresh_command session row =
    if row.fresh then of_session session row.entry.command (stamp row.entry.command) else None

-- The commands of a session that a queue carries out are the first ones that its client has handed out, in their order,
-- whatever is lost on the way or comes again.
abbrev pub ArriveInOrder : QueueArgs → SessionId → QueueId → List Deed → List Entry → Type 0
ArriveInOrder args session queue deeds entries =
    let commands = handed (new_numbers session queue) deeds in
    IsNumbered session → All (WasHanded session commands) entries
    → (n : ℕ) × (filter_map (fresh_command session) (queue_audit args entries) ≡ take n commands)
