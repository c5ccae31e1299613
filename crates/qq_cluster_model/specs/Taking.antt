-- What becomes of deliveries to consumers that have a taker: such a one waits, and all that are handed out after it,
-- until its taker has given a verdict on it.
use Rattle.std.specs.Prelude.{ℕ, List, [], ◌∷◌, ◌++◌, Bool, Option, Some, None, is_some, map, if◌then◌else◌}
use Rattle.qq_entry.specs.declared.audit.AuditRow.{AuditRow}
use Rattle.qq_entry.specs.declared.command.Command.{Command}
use Rattle.qq_entry.specs.declared.command.Command.TheVariants as commands
use Rattle.qq_entry.specs.declared.command.Unstamped.{Unstamped}
use Rattle.qq_entry.specs.declared.command.Unstamped.TheVariants as bodies
use Rattle.qq_session.specs.Publishing.{closes}
use Rattle.qq_session.specs.declared.shown.Shown.{Shown}
use Rattle.qq_session.specs.declared.shown.Shown.TheVariants.{Answered, Delivered, Dropped, Taken}
use Rattle.qq_taker.specs.Seats.{leaving, staying, taker_of}
use Rattle.qq_taker.specs.declared.seats.Leaving.{Leaving}
use Rattle.qq_taker.specs.declared.seats.Leaving.TheVariants.{Consumer, Session}
use Rattle.qq_taker.specs.declared.seats.Seat.{Seat}
use Rattle.qq_taker.specs.declared.taker.Verdict.{Verdict}
use Rattle.qq_taker.specs.declared.taker.Verdict.TheVariants.{Settle, Return, Discard, Keep}
use Rattle.qq_taker.specs.declared.handed.Handed.{Handed}

-- ---- what is told, and what waits

abbrev pub has_taker : List Seat → Handed → Bool
has_taker seats h = is_some (taker_of h.consumer seats)

-- those before the first one whose consumer has a taker are told, and the others wait
abbrev pub told_of : List Seat → List Handed → List Handed
told_of seats [] = []
told_of seats (h ∷ more) = if has_taker seats h then [] else h ∷ told_of seats more

abbrev pub waiting_of : List Seat → List Handed → List Handed
waiting_of seats [] = []
waiting_of seats (h ∷ more) = if has_taker seats h then h ∷ more else waiting_of seats more

-- more is handed out: where something waits already it waits behind that
abbrev pub told_then : List Handed → List Seat → List Handed → List Handed
told_then [] seats new = told_of seats new
told_then (h ∷ more) seats new = []

abbrev pub waiting_then : List Handed → List Seat → List Handed → List Handed
waiting_then [] seats new = waiting_of seats new
waiting_then (h ∷ more) seats new = h ∷ more ++ new

abbrev pub delivered : List Handed → List Shown
delivered all = map (λ (h : Handed). Delivered h.consumer h.delivery) all

-- ---- verdicts

-- the first one that waits has its taker's verdict, and those behind it are told up to the next one with a taker
abbrev pub judged_by : List Seat → Option ℕ → Handed → Verdict → List Handed → List Shown
judged_by seats None h verdict more = delivered (h ∷ told_of seats more)
judged_by seats (Some number) h verdict more =
    Taken number h.consumer h.delivery verdict ∷ delivered (told_of seats more)

abbrev pub judged : List Seat → Verdict → List Handed → List Shown
judged seats verdict [] = []
judged seats verdict (h ∷ more) = judged_by seats (taker_of h.consumer seats) h verdict more

-- what waits then
abbrev pub unjudged : List Seat → List Handed → List Handed
unjudged seats [] = []
unjudged seats (h ∷ more) = waiting_of seats more

-- the command that a verdict is for the consumer's session, None where the delivery stays with the consumer
abbrev pub command_for : Verdict → Handed → Option Unstamped
command_for Settle h = Some (bodies.Settle h.consumer.tag (h.delivery.id ∷ []))
command_for Return h = Some (bodies.Return h.consumer.tag (h.delivery.id ∷ []))
command_for Discard h = Some (bodies.Discard h.consumer.tag (h.delivery.id ∷ []))
command_for Keep h = None

-- ---- who loses its taker

-- a cancel ends a consumer, and the end of a session all of its own
abbrev pub leaving_by : Command → Option Leaving
leaving_by (commands.Cancel stamp tag) = Some (Consumer (record { session = stamp.session; tag = tag }))
leaving_by (commands.Down session) = Some (Session session)
leaving_by _ = None

-- an answer that closes the number of a cancel, whatever it says, and each to the end of a session
abbrev pub leaving_at : AuditRow → Option Leaving
leaving_at row = if closes row.answer then leaving_by row.entry.command else None

abbrev pub dropped_by : Option Leaving → List Seat → List Shown
dropped_by None seats = []
dropped_by (Some whom) seats =
    map (λ (seat : Seat). Dropped seat.consumer.session.number seat.number) (leaving whom seats)

abbrev pub seated_by : Option Leaving → List Seat → List Seat
seated_by None seats = seats
seated_by (Some whom) seats = staying whom seats

-- answers that are printed, each with the takers that are dropped at it, and who has a taker after them
abbrev pub answers : List Seat → List AuditRow → List Shown
answers seats [] = []
answers seats (row ∷ rows) =
    Answered row ∷ dropped_by (leaving_at row) seats ++ answers (seated_by (leaving_at row) seats) rows

abbrev pub seated : List Seat → List AuditRow → List Seat
seated seats [] = seats
seated seats (row ∷ rows) = seated (seated_by (leaving_at row) seats) rows
