-- The commands of a session that have reached the group have numbers below its next one.
use Rattle.std.proofs.Common.{◌≡◌, ℕ, zero, suc, ◌≤◌, ◌<◌, ◌+◌, Bool, true, false, not, cond, List, [], ◌∷◌, Option, Some, None, refl, sym, ap, ◌∙◌, subst, inl, inr, arith}
use Rattle.std.specs.Prelude.{nat_eq, replicate}
use Rattle.std.specs.List.{AllByRecursion}
use Rattle.std.specs.Map.{values_of}
use Rattle.std.proofs.lemmas.Bool.{cases_Bool, cond_both}
use Rattle.qq_base.proofs.Lists.{AllByRecursion-append, AllByRecursion-filter, AllByRecursion-weaker}
use Rattle.qq_base.proofs.Puts.{put-each, put-same}
use Rattle.qq_base.specs.Fronts.{put}
use Rattle.qq_base.specs.Ids.{client}
use Rattle.qq_entry.specs.Command.{seq_of, stamp}
use Rattle.qq_entry.specs.declared.answer.Answer.{Answer}
use Rattle.qq_entry.specs.declared.audit.AuditRow.{AuditRow}
use Rattle.qq_entry.specs.declared.command.Command.{Command}
use Rattle.qq_entry.specs.declared.command.Command.TheVariants as commands
use Rattle.qq_entry.specs.declared.command.Stamp.{Stamp}
use Rattle.qq_entry.specs.declared.command.Unstamped.{Unstamped}
use Rattle.qq_entry.specs.declared.queue.QueueArgs.{QueueArgs}
use Rattle.qq_raft_model.specs.Group.{Event as Move, Group}
use Rattle.qq_raft_model.specs.Group.Event.{Tick, Submit, Add, Flush, Deliver, Lose, Copy, Take, Notice, Crash, Restart}
use Rattle.qq_session.proofs.NumberingLemmas.{stamped-stamp}
use Rattle.qq_session.specs.Publishing.{Numbers, OpenCommand, answer, closes, hand, next_command, next_stamp, without}
use Rattle.qq_session.specs.Deeds.{is_sent_by}
use Rattle.qq_session.specs.Clients.{Client, Clients, hear, hear_all, is_used, may_hand, sender}
use Rattle.qq_session.proofs.Heard.{heard}
use Rattle.qq_session.proofs.OpenCommands.{client-same}
use Rattle.qq_cluster_model.specs.Laws.{all_moves}
use Rattle.qq_cluster_model.specs.Queue.{Queue, Event, Mutes, Ends, Submits, TellsEnded, TellsNotTaken, Attaches, Judges, Resends, Fetches, Downs, Ticks, Delivers, Loses, Copies, Writes, Syncs, Notices, Stops, Finds, acts, after, begin, happens, leader, moves, offered, rows_told, submits, waiting}

-- ---- sessions

-- a command of the session, with a number below this one, where it has a stamp
abbrev IsOwnBelow : ℕ → ℕ → Command → Type 0
IsOwnBelow i next command =
    (by : Stamp) → stamp command ≡ Some by → (by.session ≡ client i) × (by.seq < next)

pub record IsNumbered (i : ℕ) (n : Numbers) : Type 0 where
  pub session : n.session ≡ client i
  pub opened : AllByRecursion (λ (one : OpenCommand). IsOwnBelow i n.next one.1) n.opened

abbrev pub AreNumbered : Clients → Type 0
AreNumbered clients = (i : ℕ) → IsNumbered i (clients i).numbers

own-later : (i next : ℕ) (command : Command) → IsOwnBelow i next command → IsOwnBelow i (next + 1) command
own-later i next command own by is =
    let o = own by is in (o.0, (let lt = o.1 in omega (arith, lt)))

given-own : (i : ℕ) (body : Unstamped) (n : Numbers) → n.session ≡ client i
    → IsOwnBelow i (n.next + 1) (next_command body n)
given-own i body n session by is =
    let same : Some (next_stamp n) ≡ Some by = sym (stamped-stamp (next_stamp n) body) ∙ is in
    let own : next_stamp n ≡ by = cc in (
      ap (λ (s : Stamp). s.session) (sym own) ∙ session,
      (let seq = ap (λ (s : Stamp). s.seq) own in omega (arith, seq)),
    )

numbered-hand : (i : ℕ) (body : Unstamped) (n : Numbers) → IsNumbered i n → IsNumbered i (hand body n)
numbered-hand i body n is = record {
  session = is.session;
  opened = AllByRecursion-append (λ (one : OpenCommand). IsOwnBelow i (n.next + 1) one.1) n.opened
      ((n.next, next_command body n) ∷ [])
      (AllByRecursion-weaker (λ (one : OpenCommand). IsOwnBelow i n.next one.1)
      (λ (one : OpenCommand). IsOwnBelow i (n.next + 1) one.1) (λ one own. own-later i n.next one.1 own) n.opened is.opened)
      (given-own i body n is.session, tt);
}

numbered-answer : (i seq : ℕ) (given : Answer) (n : Numbers) → IsNumbered i n → IsNumbered i (answer seq given n)
numbered-answer i seq given n is =
    cond_both (closes given) (record n { opened = without seq n.opened }) n (IsNumbered i)
    (λ _. record {
      session = is.session;
      opened = AllByRecursion-filter (λ (one : OpenCommand). IsOwnBelow i n.next one.1)
          (λ (one : OpenCommand). not (nat_eq one.0 seq)) n.opened is.opened;
    }) (λ _. is)

next-answer : (seq : ℕ) (given : Answer) (n : Numbers) → (answer seq given n).next ≡ n.next
next-answer seq given n =
    cond_both (closes given) (record n { opened = without seq n.opened }) n (λ (m : Numbers). m.next ≡ n.next)
    (λ _. refl) (λ _. refl)

-- what a row leaves of a session's numbers
row-leaves : (P : Numbers → Type 0) (row : AuditRow) (clients : Clients) (i : ℕ) → P (clients i).numbers
    → P (answer (seq_of row.entry.command) row.answer (clients i).numbers) → P (hear row clients i).numbers
row-leaves P row clients i old new =
    let h = heard row clients i in
    elim (cases_Bool (clients i).muted) [
      | inl muted ↦ subst P (sym (h.lost muted)) old
      | inr hears ↦ subst P (sym (h.taken hears))
          (cond_both (is_sent_by i (sender row)) (answer (seq_of row.entry.command) row.answer (clients i).numbers)
          (clients i).numbers P (λ _. new) (λ _. old))
    ]

numbered-hear : (rows : List AuditRow) (clients : Clients) → AreNumbered clients → AreNumbered (hear_all rows clients)
numbered-hear [] clients are = are
numbered-hear (row ∷ rows) clients are =
    numbered-hear rows (hear row clients) (λ i. row-leaves (IsNumbered i) row clients i (are i)
    (numbered-answer i (seq_of row.entry.command) row.answer (clients i).numbers (are i)))

next-hear : (rows : List AuditRow) (clients : Clients) (i : ℕ)
    → (hear_all rows clients i).numbers.next ≡ (clients i).numbers.next
next-hear [] clients i = refl
next-hear (row ∷ rows) clients i =
    next-hear rows (hear row clients) i
    ∙ row-leaves (λ (n : Numbers). n.next ≡ (clients i).numbers.next) row clients i refl
    (next-answer (seq_of row.entry.command) row.answer (clients i).numbers)

-- ---- what a session does

-- each number given stays given
record Rises (old new : Clients) : Type 0 where
  numbered : AreNumbered new
  rises : (i : ℕ) → (old i).numbers.next ≤ (new i).numbers.next

rises-refl : (clients : Clients) → AreNumbered clients → Rises clients clients
rises-refl clients are = record { numbered = are; rises = λ i. omega arith }

rises-put : (clients : Clients) (own : ℕ) (new : Client) → AreNumbered clients → IsNumbered own new.numbers
    → (clients own).numbers.next ≤ new.numbers.next → Rises clients (put own new clients)
rises-put clients own new are is le = record {
  numbered = put-each (λ (i : ℕ) (c : Client). IsNumbered i c.numbers) own new clients is (λ i other. are i);
  rises = put-each (λ (i : ℕ) (c : Client). (clients i).numbers.next ≤ c.numbers.next) own new clients le
      (λ i other. omega arith);
}

acts-rises : (event : Event) (clients : Clients) → AreNumbered clients → Rises clients (acts event clients)
acts-rises (Mutes own muted) clients are =
    rises-put clients own (record (clients own) { muted = muted }) are
    (record { session = (are own).session; opened = (are own).opened }) (omega arith)
acts-rises (Ends own) clients are =
    rises-put clients own (record (clients own) { ended = true }) are
    (record { session = (are own).session; opened = (are own).opened }) (omega arith)
acts-rises (Submits own body) clients are =
    let n : Numbers = (clients own).numbers in
    cond_both (may_hand n) (put own (record (clients own) { numbers = hand body n }) clients) clients (Rises clients)
    (λ _. rises-put clients own (record (clients own) { numbers = hand body n }) are (numbered-hand own body n (are own))
    (omega arith))
    (λ _. rises-refl clients are)
acts-rises (TellsEnded own) clients are = rises-refl clients are
acts-rises (TellsNotTaken own id) clients are = rises-refl clients are
acts-rises (Attaches own tag number) clients are = rises-refl clients are
acts-rises (Judges verdict) clients are = rises-refl clients are
acts-rises (Fetches own) clients are = rises-refl clients are
acts-rises (Resends own) clients are = rises-refl clients are
acts-rises (Downs own) clients are = rises-refl clients are
acts-rises (Ticks k) clients are = rises-refl clients are
acts-rises (Delivers at) clients are = rises-refl clients are
acts-rises (Loses at) clients are = rises-refl clients are
acts-rises (Copies at) clients are = rises-refl clients are
acts-rises (Writes k) clients are = rises-refl clients are
acts-rises (Syncs k) clients are = rises-refl clients are
acts-rises (Notices k) clients are = rises-refl clients are
acts-rises (Stops k) clients are = rises-refl clients are
acts-rises (Finds k op) clients are = rises-refl clients are

event-rises : (q : Queue) (event : Event) → AreNumbered q.clients → Rises q.clients (happens q event).clients
event-rises q event are =
    let a = acts-rises event q.clients are in
    record {
      numbered = numbered-hear (rows_told q event) (acts event q.clients) a.numbered;
      rises = λ i. (let same = next-hear (rows_told q event) (acts event q.clients) i in let le = a.rises i in
          omega (arith, same, le));
    }

-- ---- what reaches the group

-- a command of this session has a number below this one
abbrev pub IsBelow : ℕ → ℕ → Command → Type 0
IsBelow session next command =
    (by : Stamp) → stamp command ≡ Some by → by.session ≡ client session → by.seq < next

abbrev pub BringsBelow : ℕ → ℕ → Move → Type 0
BringsBelow session next (Submit k time command) = IsBelow session next command
BringsBelow session next (Add k time command) = ⊥
BringsBelow session next _ = Unit {0}

below-later : (session next more : ℕ) → next ≤ more → (move : Move) → BringsBelow session next move
    → BringsBelow session more move
below-later session next more le (Submit k time command) is =
    λ by stamped own. (let lt = is by stamped own in omega (arith, lt, le))
below-later session next more le (Add k time command) is = absurd is
below-later session next more le (Tick k) is = tt
below-later session next more le (Flush k) is = tt
below-later session next more le (Deliver at) is = tt
below-later session next more le (Lose at) is = tt
below-later session next more le (Copy at) is = tt
below-later session next more le (Take k) is = tt
below-later session next more le (Notice k op) is = tt
below-later session next more le (Crash k) is = tt
below-later session next more le (Restart k op) is = tt

-- a command of some session
of-own : (session own : ℕ) (clients : Clients) (command : Command) → IsOwnBelow own (clients own).numbers.next command
    → IsBelow session (clients session).numbers.next command
of-own session own clients command is by stamped mine =
    let o = is by stamped in
    let same : own ≡ session = client-same own session (sym o.0 ∙ mine) in
    subst (λ (n : ℕ). by.seq < (clients n).numbers.next) same o.1

opened-below : (session own : ℕ) (clients : Clients) (opened : List OpenCommand)
    → AllByRecursion (λ (one : OpenCommand). IsOwnBelow own (clients own).numbers.next one.1) opened
    → AllByRecursion (IsBelow session (clients session).numbers.next) (values_of opened)
opened-below session own clients [] each = tt
opened-below session own clients (one ∷ more) each =
    (of-own session own clients one.1 each.0, opened-below session own clients more each.1)

-- what is offered, by the numbers after it
offered-below : (session : ℕ) (event : Event) (clients : Clients) → AreNumbered clients
    → AllByRecursion (IsBelow session (acts event clients session).numbers.next) (offered clients event)
offered-below session (Submits own body) clients are =
    by (may_hand (clients own).numbers)
  where
    given-number : Clients
    given-number = put own (record (clients own) { numbers = hand body (clients own).numbers }) clients

    given : IsOwnBelow own (given-number own).numbers.next (next_command body (clients own).numbers)
    given =
        subst (λ (c : Client). IsOwnBelow own c.numbers.next (next_command body (clients own).numbers))
        (sym (put-same own (record (clients own) { numbers = hand body (clients own).numbers }) clients))
        (given-own own body (clients own).numbers (are own).session)

    by : (b : Bool)
        → AllByRecursion (IsBelow session (cond b given-number clients session).numbers.next)
        (cond b (next_command body (clients own).numbers ∷ []) [])
    by true = (of-own session own given-number (next_command body (clients own).numbers) given, tt)
    by false = tt
offered-below session (Resends own) clients are =
    opened-below session own clients (clients own).numbers.opened (are own).opened
offered-below session (Downs own) clients are =
    cond_both (is_used (clients own).numbers) (commands.Down (client own) ∷ []) []
    (AllByRecursion (IsBelow session (clients session).numbers.next))
    (λ _. ((λ by is. absurd (let e : None ≡ Some by = is in cc)), tt)) (λ _. tt)
offered-below session (Mutes own muted) clients are = tt
offered-below session (Ends own) clients are = tt
offered-below session (TellsEnded own) clients are = tt
offered-below session (TellsNotTaken own id) clients are = tt
offered-below session (Attaches own tag number) clients are = tt
offered-below session (Judges verdict) clients are = tt
offered-below session (Fetches own) clients are = tt
offered-below session (Ticks k) clients are = tt
offered-below session (Delivers at) clients are = tt
offered-below session (Loses at) clients are = tt
offered-below session (Copies at) clients are = tt
offered-below session (Writes k) clients are = tt
offered-below session (Syncs k) clients are = tt
offered-below session (Notices k) clients are = tt
offered-below session (Stops k) clients are = tt
offered-below session (Finds k op) clients are = tt

submits-below : (session next : ℕ) (o : Option ℕ) (given : List Command)
    → AllByRecursion (IsBelow session next) given → AllByRecursion (BringsBelow session next) (submits o given)
submits-below session next o [] each = tt
submits-below session next None (command ∷ given) each = submits-below session next None given each.1
submits-below session next (Some k) (command ∷ given) each =
    (each.0, submits-below session next (Some k) given each.1)

takes-below : (session next k n : ℕ) → AllByRecursion (BringsBelow session next) (replicate n (Take k))
takes-below session next k zero = tt
takes-below session next k (suc n) = (tt, takes-below session next k n)

event-below : (session : ℕ) (q : Queue) (event : Event) → AreNumbered q.clients
    → AllByRecursion (BringsBelow session (acts event q.clients session).numbers.next) (moves q event)
event-below session q (Submits own body) are =
    submits-below session _ (leader q.group) (offered q.clients (Submits own body))
    (offered-below session (Submits own body) q.clients are)
event-below session q (Resends own) are =
    submits-below session _ (leader q.group) (offered q.clients (Resends own))
    (offered-below session (Resends own) q.clients are)
event-below session q (Downs own) are =
    submits-below session _ (leader q.group) (offered q.clients (Downs own))
    (offered-below session (Downs own) q.clients are)
event-below session q (Mutes own muted) are = tt
event-below session q (Ends own) are = tt
event-below session q (TellsEnded own) are = tt
event-below session q (TellsNotTaken own id) are = tt
event-below session q (Attaches own tag number) are = tt
event-below session q (Judges verdict) are = tt
event-below session q (Fetches own) are = tt
event-below session q (Ticks k) are = (tt, tt)
event-below session q (Delivers at) are = (tt, tt)
event-below session q (Loses at) are = (tt, tt)
event-below session q (Copies at) are = (tt, tt)
event-below session q (Writes k) are = takes-below session _ k (waiting k q.group)
event-below session q (Syncs k) are = tt
event-below session q (Notices k) are = (tt, tt)
event-below session q (Stops k) are = (tt, tt)
event-below session q (Finds k op) are = (tt, tt)

-- ---- all events

pub record AllBelow (session : ℕ) (q : Queue) (events : List Event) : Type 0 where
  pub numbered : AreNumbered (after q events).clients
  pub rises : (q.clients session).numbers.next ≤ ((after q events).clients session).numbers.next
  pub moves : AllByRecursion (BringsBelow session ((after q events).clients session).numbers.next) (all_moves q events)

pub all-below : (session : ℕ) (q : Queue) (events : List Event) → AreNumbered q.clients → AllBelow session q events
all-below session q [] are = record { numbered = are; rises = omega arith; moves = tt }
all-below session q (event ∷ events) are =
    let e = event-rises q event are in
    let rest = all-below session (happens q event) events e.numbered in
    let a = next-hear (rows_told q event) (acts event q.clients) session in
    let b = rest.rises in
    let c = e.rises session in
    record {
      numbered = rest.numbered;
      rises = omega (arith, b, c);
      moves = AllByRecursion-append
          (BringsBelow session ((after q (event ∷ events)).clients session).numbers.next) (moves q event)
          (all_moves (happens q event) events)
          (AllByRecursion-weaker (BringsBelow session (acts event q.clients session).numbers.next)
          (BringsBelow session ((after q (event ∷ events)).clients session).numbers.next)
          (below-later session (acts event q.clients session).numbers.next
          ((after q (event ∷ events)).clients session).numbers.next (omega (arith, a, b))) (moves q event)
          (event-below session q event are))
          rest.moves;
    }

pub numbered-begin : (args : QueueArgs) (group : Group) → AreNumbered (begin args group).clients
numbered-begin args group i = record { session = refl; opened = tt }
