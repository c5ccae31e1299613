-- The numbers of a session's commands, and their answers (Ongaro's dissertation, section 6.3).
use Rattle.std.specs.Prelude.{◌≡◌, ℕ, ◌+◌, ◌≤◌, ◌⊎◌, List, true, Option, Some, None, slice_get, filter_map, if◌then◌else◌}
use Rattle.qq_base.specs.declared.ids.SessionId.{SessionId}
use Rattle.qq_base.specs.Ids.{same_session}
use Rattle.qq_entry.specs.declared.command.Stamp.{Stamp}
use Rattle.qq_entry.specs.declared.command.Entry.{Entry}
use Rattle.qq_entry.specs.declared.audit.AuditRow.{AuditRow}
use Rattle.qq_entry.specs.declared.queue.QueueArgs.{QueueArgs}
use Rattle.qq_entry.specs.Command.{stamp}
use Rattle.qq_model.specs.declared.session.OpenSession.{OpenSession}
use Rattle.qq_model.specs.State.{State}
use Rattle.qq_model.specs.Gate.{IsNumbered, is_ended, session_of}
use Rattle.qq_model.specs.Audit.{next_step, state_after}
use Rattle.qq_laws.specs.Always.{queue_audit}
use Rattle.qq_laws.specs.Once.{IsOpenRepeat}

-- A command of a client, or of a worker that dead-letters at least once, that was carried out at a state: whatever comes
-- between, a command of its session with its number that is above the low mark gets the answer that it got.
abbrev pub AnswersAsFirst : State → Type 0
AnswersAsFirst s =
    (first second : Entry) (given again : Stamp) (between : List Entry) (one : OpenSession)
    → IsNumbered given.session → stamp first.command ≡ Some given → (next_step s first).fresh ≡ true
    → stamp second.command ≡ Some again → again.session ≡ given.session → again.seq ≡ given.seq
    → let t = state_after (next_step s first).state between in
    IsOpenRepeat t.sessions again one → (next_step t second).answer ≡ (next_step s first).answer

-- an open session of a client or of such a worker has ended later, or its low mark and its next number are no less
abbrev pub MarksRise : State → Type 0
MarksRise s =
    (entries : List Entry) (session : SessionId) (one : OpenSession) → IsNumbered session
    → session_of session s.sessions.opened ≡ Some one
    → let later = (state_after s entries).sessions in
    (is_ended later session ≡ true)
    ⊎ ((other : OpenSession) × (session_of session later.opened ≡ Some other) × (one.mark ≤ other.mark)
    × (one.next ≤ other.next))

-- the number of a row whose command is of this session, and was carried out
abbrev pub number_of : SessionId → Option Stamp → Option ℕ
number_of session None = None
number_of session (Some given) = if same_session given.session session then Some given.seq else None

abbrev pub fresh_number : SessionId → AuditRow → Option ℕ
fresh_number session row = if row.fresh then number_of session (stamp row.entry.command) else None

-- the commands of a session that are carried out, over all entries, have the numbers 1, 2, 3 and so on
abbrev pub CountsCommands : QueueArgs → List Entry → Type 0
CountsCommands args entries =
    (session : SessionId) → IsNumbered session → (k n : ℕ)
    → slice_get (filter_map (fresh_number session) (queue_audit args entries)) k ≡ Some n → n ≡ k + 1
