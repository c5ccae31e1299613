-- What a client's session does: it takes the answers that aren't lost.
use Rattle.std.specs.Prelude.{ℕ, List, [], ◌∷◌, Bool, false, Option, Some, None, filter, map, nat_eq, if◌then◌else◌}
use Rattle.qq_entry.specs.declared.audit.AuditRow.{AuditRow}
use Rattle.qq_session.specs.Publishing.{Numbers}
use Rattle.qq_session.specs.Arriving.{Deed, Takes, after_deed}
use Rattle.qq_session.specs.Clients.{Clients, sender}
use Rattle.qq_entry.specs.Command.{seq_of}

-- a session takes the answer of a row
abbrev pub take_of : AuditRow → Deed
take_of row = Takes (seq_of row.entry.command) row.answer

-- whether a command's session, if it is of one, is this one
abbrev pub is_sent_by : ℕ → Option ℕ → Bool
is_sent_by session None = false
is_sent_by session (Some own) = nat_eq own session

-- what a session does where rows are answered; what is lost it doesn't take
abbrev pub takes_of : ℕ → Clients → List AuditRow → List Deed
takes_of session clients rows =
    if (clients session).muted then []
    else map take_of (filter (λ (row : AuditRow). is_sent_by session (sender row)) rows)

abbrev pub after_deeds : List Deed → Numbers → Numbers
after_deeds [] n = n
after_deeds (deed ∷ more) n = after_deeds more (after_deed deed n)
