-- Which row of an audit answers a command.
use Rattle.std.specs.Prelude.{ℕ, Bool, true, false, List, [], ◌∷◌, Option, Some, None, option_map, nat_eq, nat_lt, ◌&&◌, if◌then◌else◌}
use Rattle.qq_base.specs.Ids.{same_session}
use Rattle.qq_base.specs.declared.ids.SessionId.{SessionId}
use Rattle.qq_entry.specs.Command.{session, stamp}
use Rattle.qq_entry.specs.declared.audit.AuditRow.{AuditRow}
use Rattle.qq_entry.specs.declared.command.Command.{Command}
use Rattle.qq_entry.specs.declared.command.Stamp.{Stamp}

-- a command's number in its session; the end of a session has none
abbrev pub number : Command → Option ℕ
number command = option_map (λ (by : Stamp). by.seq) (stamp command)

-- the same session gave two commands; what no session gave is answered to nobody
abbrev pub same_giver : Option SessionId → Option SessionId → Bool
same_giver (Some a) (Some b) = same_session a b
same_giver _ _ = false

abbrev pub same_number : Option ℕ → Option ℕ → Bool
same_number (Some a) (Some b) = nat_eq a b
same_number None None = true
same_number _ _ = false

-- a row behind an index is a command's
abbrev pub is_answer : Command → ℕ → AuditRow → Bool
is_answer command after row =
    nat_lt after row.index.0
    && same_giver (session command) (session row.entry.command)
    && same_number (number command) (number row.entry.command)

-- the first one
abbrev pub answer_after : Command → ℕ → List AuditRow → Option AuditRow
answer_after command after [] = None
answer_after command after (row ∷ rows) =
    if is_answer command after row then Some row else answer_after command after rows
