-- The answer that closes a number is printed once.
use Rattle.std.proofs.Common.{◌≡◌, ◌≢◌, ℕ, List, [], ◌∷◌, ◌++◌, Option, None, refl, sym, ap, ◌∙◌, subst, append-nil}
use Rattle.std.specs.Prelude.{filter_map, AllPairs}
use Rattle.std.specs.List.{AllByRecursion}
use Rattle.std.proofs.lemmas.Bool.{cond_both}
use Rattle.qq_base.proofs.Lists.{AllByRecursion-append, AllByRecursion-weaker}
use Rattle.qq_entry.specs.declared.audit.AuditRow.{AuditRow}
use Rattle.qq_entry.specs.declared.queue.QueueArgs.{QueueArgs}
use Rattle.qq_session.proofs.AuditRows.{filter_map-append}
use Rattle.qq_raft_model.specs.Group.{Group}
use Rattle.qq_session.specs.Publishing.{Numbers}
use Rattle.qq_session.specs.Printed.{closed_number}
use Rattle.qq_session.specs.Clients.{Clients, hear_all, may_hand, printed}
use Rattle.qq_session.specs.declared.shown.Shown.{Shown}
use Rattle.qq_session.specs.declared.shown.Shown.TheVariants.{WindowFull}
use Rattle.qq_session.specs.Shown.{said_of}
use Rattle.qq_taker.specs.Seats.{taker_of}
use Rattle.qq_taker.specs.declared.handed.Handed.{Handed}
use Rattle.qq_session.proofs.PrintedOnce.{IsClosed, OpenBelow, closed-deeds, below-deeds, numbers_in, printed_numbers, Distinct, pairs-distinct, printed-distinct, printed-closed, never-printed, offered-none, distinct-append}
use Rattle.qq_cluster_model.specs.Laws.{deeds_at}
use Rattle.qq_cluster_model.specs.Queue.{Queue, Event, Mutes, Ends, Submits, TellsEnded, TellsNotTaken, Attaches, Judges, Resends, Fetches, Downs, Ticks, Delivers, Loses, Copies, Writes, Syncs, Notices, Stops, Finds, all_said, attached, begin, consumer_of, handed_out, happens, has_leader, offered, rows_told, said, seats_after, told}
use Rattle.qq_cluster_model.specs.Taking.{answers, delivered, judged, told_then}
use Rattle.qq_cluster_model.proofs.Handing.{IsSilent, all-attached, all-delivered, all-judged, answers-filter, filter-none, silent-said}
use Rattle.qq_cluster_model.proofs.Numbers.{event-numbers}

-- what is told closes the numbers of the rows that are printed
told-numbers : (session : ℕ) (q : Queue) (event : Event)
    → numbers_in session (told q event) ≡ printed_numbers session (rows_told q event) q.clients
told-numbers session q event =
    let rows : List AuditRow = printed (rows_told q event) q.clients in
    let out : List Handed = told_then q.untold (seats_after q event) (handed_out q event) in
    filter_map-append (closed_number session) (answers q.seats rows) (delivered out)
    ∙ ap (λ (l : List ℕ). numbers_in session (answers q.seats rows) ++ l)
    (filter-none (closed_number session) (delivered out)
    (all-delivered (λ (x : Shown). closed_number session x ≡ None) (λ id d. refl) out))
    ∙ append-nil (numbers_in session (answers q.seats rows))
    ∙ answers-filter (closed_number session) (λ own number. refl) q.seats rows

silent-shows : (session : ℕ) (q : Queue) (event : Event) (P : Clients → List ℕ → Type 0)
    → ((clients : Clients) → P clients []) → IsSilent event
    → P (happens q event).clients (numbers_in session (said q event))
silent-shows session q event P nothing silent =
    subst (λ (shown : List Shown). P (happens q event).clients (numbers_in session shown))
    (sym (silent-said q event silent)) (nothing (happens q event).clients)

-- what an event shows closes no number, or it closes those of the rows that it tells of, which its clients hear
event-shows : (session : ℕ) (q : Queue) (event : Event) (P : Clients → List ℕ → Type 0)
    → ((clients : Clients) → P clients [])
    → P (hear_all (rows_told q event) q.clients) (printed_numbers session (rows_told q event) q.clients)
    → P (happens q event).clients (numbers_in session (said q event))
event-shows session q (Submits own body) P nothing tells =
    let n : Numbers = (q.clients own).numbers in
    let new : Clients = (happens q (Submits own body)).clients in
    let given = offered q.clients (Submits own body) in
    cond_both (may_hand n) (said_of (has_leader q) own given) (WindowFull own ∷ [])
    (λ (shown : List Shown). P new (numbers_in session shown))
    (λ _. subst (P new) (sym (offered-none session own (has_leader q) given)) (nothing new)) (λ _. nothing new)
event-shows session q (Resends own) P nothing tells =
    let given = offered q.clients (Resends own) in
    subst (P q.clients) (sym (offered-none session own (has_leader q) given)) (nothing q.clients)
event-shows session q (Downs own) P nothing tells =
    let given = offered q.clients (Downs own) in
    subst (P q.clients) (sym (offered-none session own (has_leader q) given)) (nothing q.clients)
event-shows session q (TellsEnded own) P nothing tells = nothing q.clients
event-shows session q (TellsNotTaken own id) P nothing tells = nothing q.clients
event-shows session q (Attaches own tag number) P nothing tells =
    let o : Option ℕ = taker_of (consumer_of own tag) q.seats in
    subst (P q.clients) (sym (filter-none (closed_number session) (attached own number o)
    (all-attached (λ (x : Shown). closed_number session x ≡ None) (λ s n. refl) (λ s n. refl) own number o)))
    (nothing q.clients)
event-shows session q (Judges verdict) P nothing tells =
    subst (P q.clients) (sym (filter-none (closed_number session) (judged q.seats verdict q.untold)
    (all-judged (λ (x : Shown). closed_number session x ≡ None) (λ id d. refl) (λ n id d v. refl) q.seats verdict
    q.untold))) (nothing q.clients)
event-shows session q (Mutes own muted) P nothing tells = silent-shows session q (Mutes own muted) P nothing tt
event-shows session q (Ends own) P nothing tells = silent-shows session q (Ends own) P nothing tt
event-shows session q (Ticks k) P nothing tells = silent-shows session q (Ticks k) P nothing tt
event-shows session q (Loses at) P nothing tells = silent-shows session q (Loses at) P nothing tt
event-shows session q (Copies at) P nothing tells = silent-shows session q (Copies at) P nothing tt
event-shows session q (Writes k) P nothing tells = silent-shows session q (Writes k) P nothing tt
event-shows session q (Syncs k) P nothing tells = silent-shows session q (Syncs k) P nothing tt
event-shows session q (Stops k) P nothing tells = silent-shows session q (Stops k) P nothing tt
event-shows session q (Finds k op) P nothing tells = silent-shows session q (Finds k op) P nothing tt
event-shows session q (Fetches own) P nothing tells =
    subst (P (happens q (Fetches own)).clients) (sym (told-numbers session q (Fetches own))) tells
event-shows session q (Delivers at) P nothing tells =
    subst (P (happens q (Delivers at)).clients) (sym (told-numbers session q (Delivers at))) tells
event-shows session q (Notices k) P nothing tells =
    subst (P (happens q (Notices k)).clients) (sym (told-numbers session q (Notices k))) tells

abbrev numbers_at : ℕ → Queue → Numbers
numbers_at session q = (q.clients session).numbers

closed-event : (seq session : ℕ) (q : Queue) (event : Event) → IsClosed seq (numbers_at session q)
    → IsClosed seq (numbers_at session (happens q event))
closed-event seq session q event is =
    subst (IsClosed seq) (sym (event-numbers session q event))
    (closed-deeds seq (deeds_at session q event) (numbers_at session q) is)

below-event : (session : ℕ) (q : Queue) (event : Event) → OpenBelow (numbers_at session q)
    → OpenBelow (numbers_at session (happens q event))
below-event session q event below =
    subst OpenBelow (sym (event-numbers session q event))
    (below-deeds (deeds_at session q event) (numbers_at session q) below)

-- a number that is closed is never printed again
never-again : (seq session : ℕ) (q : Queue) (events : List Event) → IsClosed seq (numbers_at session q)
    → AllByRecursion (λ (m : ℕ). m ≢ seq) (numbers_in session (all_said q events))
never-again seq session q [] is = tt
never-again seq session q (event ∷ events) is =
    let next : Queue = happens q event in
    subst (AllByRecursion (λ (m : ℕ). m ≢ seq))
    (sym (filter_map-append (closed_number session) (said q event) (all_said next events)))
    (AllByRecursion-append (λ (m : ℕ). m ≢ seq) (numbers_in session (said q event))
    (numbers_in session (all_said next events))
    (event-shows session q event (λ clients l. AllByRecursion (λ (m : ℕ). m ≢ seq) l) (λ clients. tt)
    (never-printed seq session (rows_told q event) q.clients is))
    (never-again seq session next events (closed-event seq session q event is)))

closes-distinct : (session : ℕ) (q : Queue) (events : List Event) → OpenBelow (numbers_at session q)
    → Distinct (numbers_in session (all_said q events))
closes-distinct session q [] below = tt
closes-distinct session q (event ∷ events) below =
    let next : Queue = happens q event in
    let rows : List AuditRow = rows_told q event in
    let closed : AllByRecursion (λ (m : ℕ). IsClosed m (numbers_at session next)) (numbers_in session (said q event)) =
    event-shows session q event (λ clients l. AllByRecursion (λ (m : ℕ). IsClosed m (clients session).numbers) l)
    (λ clients. tt) (printed-closed session rows q.clients below) in
    subst Distinct (sym (filter_map-append (closed_number session) (said q event) (all_said next events)))
    (distinct-append (numbers_in session (said q event)) (numbers_in session (all_said next events))
    (event-shows session q event (λ clients l. Distinct l) (λ clients. tt)
    (printed-distinct session rows q.clients below))
    (closes-distinct session next events (below-event session q event below))
    (AllByRecursion-weaker (λ (m : ℕ). IsClosed m (numbers_at session next))
    (λ (x : ℕ). AllByRecursion (λ (m : ℕ). m ≢ x) (numbers_in session (all_said next events)))
    (λ x is. never-again x session next events is) (numbers_in session (said q event)) closed))

pub closes-once : (args : QueueArgs) (group : Group) (session : ℕ) (events : List Event)
    → AllPairs (λ (m n : ℕ). m ≢ n) (filter_map (closed_number session) (all_said (begin args group) events))
closes-once args group session events =
    pairs-distinct (numbers_in session (all_said (begin args group) events))
    (closes-distinct session (begin args group) events tt)
