-- What is said of the answers that are printed to clients.
use Rattle.std.specs.Prelude.{ℕ, List, true, not, ◌&&◌, Option, Some, None, if◌then◌else◌, ◌≡◌, ◌⊎◌, Contains}
use Rattle.qq_base.specs.Ids.{client}
use Rattle.qq_base.specs.declared.ids.SessionId.{SessionId}
use Rattle.qq_entry.specs.declared.command.Stamp.{Stamp}
use Rattle.qq_entry.specs.declared.audit.AuditRow.{AuditRow}
use Rattle.qq_entry.specs.Command.{seq_of, stamp}
use Rattle.qq_session.specs.Publishing.{closes}
use Rattle.qq_entry.specs.declared.answer.Answer.TheVariants.{Confirmed}
use Rattle.qq_entry.specs.declared.command.Command.TheVariants.{Enqueue, Down}
use Rattle.qq_entry.specs.declared.message.Message.{Message}
use Rattle.qq_entry.specs.declared.message.Origin.{Origin}
use Rattle.qq_session.specs.ExactlyOne.{ExactlyOne}
use Rattle.qq_session.specs.Deeds.{is_sent_by}
use Rattle.qq_session.specs.Clients.{Clients, sender, ended_by, is_printed}
use Rattle.qq_session.specs.declared.shown.Shown.{Shown}
use Rattle.qq_session.specs.declared.shown.Shown.TheVariants.{Answered}

-- a row of an audit that answers a command of a client, or the end of its session
pub record IsAnswer (audit : List AuditRow) (row : AuditRow) : Type 0 where
  pub is_in : Contains audit row
  pub session : ℕ
  pub sender_is : (sender row ≡ Some session) ⊎ (ended_by row.entry.command ≡ Some session)

-- what is printed as an answer is one of an audit
abbrev pub IsAudited : List AuditRow → Shown → Type 0
IsAudited audit (Answered row) = IsAnswer audit row
IsAudited audit _ = Unit {0}

-- whether a row is a publish of a session's number that was carried out and confirmed
pub record IsConfirmedPublish (session : SessionId) (seq : ℕ) (row : AuditRow) : Type 0 where
  pub by : Stamp
  pub origin : Option Origin
  pub message : Message
  pub is : row.entry.command ≡ Enqueue by origin message
  pub session_is : by.session ≡ session
  pub seq_is : by.seq ≡ seq
  pub fresh : row.fresh ≡ true
  pub answer : row.answer ≡ Confirmed

-- what is printed as `confirmed` has exactly one publish of its session and number in an audit
abbrev pub IsConfirmedOnce : List AuditRow → Shown → Type 0
IsConfirmedOnce audit (Answered row) =
    (given : Stamp) → stamp row.entry.command ≡ Some given → row.answer ≡ Confirmed
    → ExactlyOne (IsConfirmedPublish given.session given.seq) audit
IsConfirmedOnce audit _ = Unit {0}

-- the number of a session that a printed answer closes
abbrev pub closed_number : ℕ → Shown → Option ℕ
closed_number session (Answered row) =
    if is_sent_by session (sender row) && closes row.answer then Some (seq_of row.entry.command) else None
closed_number session _ = None

-- the answer to the end of a session is printed where the session isn't muted, however often it ends
abbrev pub PrintsEnd : ℕ → Clients → AuditRow → Type 0
PrintsEnd session clients row =
    row.entry.command ≡ Down (client session) → is_printed clients row ≡ not (clients session).muted
