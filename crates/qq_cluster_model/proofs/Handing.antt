-- What is handed out is told at once or waits for a taker's verdict, and what is shown then.
use Rattle.std.proofs.Common.{◌≡◌, ℕ, Bool, true, false, cond, List, [], ◌∷◌, ◌++◌, Option, Some, None, map, refl, ap, ◌∙◌}
use Rattle.std.specs.Prelude.{filter_map}
use Rattle.std.specs.List.{AllByRecursion, cons_option}
use Rattle.qq_base.proofs.Lists.{AllByRecursion-append}
use Rattle.qq_base.specs.declared.ids.ConsumerId.{ConsumerId}
use Rattle.qq_entry.specs.declared.answer.Delivery.{Delivery}
use Rattle.qq_entry.specs.declared.audit.AuditRow.{AuditRow}
use Rattle.qq_session.specs.declared.shown.Shown.{Shown}
use Rattle.qq_session.specs.declared.shown.Shown.TheVariants.{Answered, Attached, Delivered, Dropped, IsBusy, Taken}
use Rattle.qq_session.proofs.AuditRows.{filter_map-append}
use Rattle.qq_taker.specs.Seats.{leaving, taker_of}
use Rattle.qq_taker.specs.declared.handed.Handed.{Handed}
use Rattle.qq_taker.specs.declared.seats.Leaving.{Leaving}
use Rattle.qq_taker.specs.declared.seats.Seat.{Seat}
use Rattle.qq_taker.specs.declared.taker.Verdict.{Verdict}
use Rattle.qq_cluster_model.specs.Queue.{Queue, Event, Mutes, Ends, Attaches, Judges, Fetches, Ticks, Delivers, Loses, Copies, Writes, Syncs, Notices, Stops, Finds, attached, said, seats_after, untold_after}
use Rattle.qq_cluster_model.specs.Taking.{answers, delivered, dropped_by, has_taker, judged, judged_by, leaving_at, seated_by, told_of, told_then, waiting_of, waiting_then}
use Rattle.qq_cluster_model.proofs.Takerless.{delivered-still, waiting-still}

-- ---- what is told, and what waits

pub told_of-waiting : (seats : List Seat) (new : List Handed) → told_of seats new ++ waiting_of seats new ≡ new
told_of-waiting seats [] = refl
told_of-waiting seats (h ∷ more) = by (has_taker seats h) (told_of-waiting seats more)
  where
    by : (b : Bool) → told_of seats more ++ waiting_of seats more ≡ more
        → cond b [] (h ∷ told_of seats more) ++ cond b (h ∷ more) (waiting_of seats more) ≡ h ∷ more
    by true rest = refl
    by false rest = ap (λ (l : List Handed). h ∷ l) rest

-- nothing is lost, and the order stays
pub told-waiting : (waits : List Handed) (seats : List Seat) (new : List Handed)
    → told_then waits seats new ++ waiting_then waits seats new ≡ waits ++ new
told-waiting [] seats new = told_of-waiting seats new
told-waiting (h ∷ more) seats new = refl

-- nothing is handed out at it, and it is no verdict
abbrev pub HandsNothing : Event → Type 0
HandsNothing (Delivers at) = ⊥
HandsNothing (Fetches session) = ⊥
HandsNothing (Judges verdict) = ⊥
HandsNothing (Notices k) = ⊥
HandsNothing _ = Unit {0}

pub untold-same : (q : Queue) (event : Event) → HandsNothing event → untold_after q event ≡ q.untold
untold-same q (Delivers at) none = absurd none
untold-same q (Fetches session) none = absurd none
untold-same q (Judges verdict) none = absurd none
untold-same q (Notices k) none = absurd none
untold-same q (Attaches session tag number) none =
    waiting-still q.untold (seats_after q (Attaches session tag number))
untold-same q event none = waiting-still q.untold q.seats

-- it is shown by nothing
abbrev pub IsSilent : Event → Type 0
IsSilent (Mutes session muted) = Unit {0}
IsSilent (Ends session) = Unit {0}
IsSilent (Ticks k) = Unit {0}
IsSilent (Loses at) = Unit {0}
IsSilent (Copies at) = Unit {0}
IsSilent (Writes k) = Unit {0}
IsSilent (Syncs k) = Unit {0}
IsSilent (Stops k) = Unit {0}
IsSilent (Finds k op) = Unit {0}
IsSilent _ = ⊥

pub silent-said : (q : Queue) (event : Event) → IsSilent event → said q event ≡ []
silent-said q (Mutes session muted) silent = delivered-still q
silent-said q (Ends session) silent = delivered-still q
silent-said q (Ticks k) silent = delivered-still q
silent-said q (Loses at) silent = delivered-still q
silent-said q (Copies at) silent = delivered-still q
silent-said q (Writes k) silent = delivered-still q
silent-said q (Syncs k) silent = delivered-still q
silent-said q (Stops k) silent = delivered-still q
silent-said q (Finds k op) silent = delivered-still q
silent-said q event silent = absurd silent

-- ---- what holds of all that is shown

pub filter-none : {B : Type 0} (f : Shown → Option B) (xs : List Shown) → AllByRecursion (λ (x : Shown). f x ≡ None) xs
    → filter_map f xs ≡ []
filter-none f [] none = refl
filter-none f (x ∷ xs) none =
    ap (λ o. cons_option o (filter_map f xs)) none.0 ∙ filter-none f xs none.1

pub all-delivered : (P : Shown → Type 0) → ((id : ConsumerId) (d : Delivery) → P (Delivered id d)) → (hs : List Handed)
    → AllByRecursion P (delivered hs)
all-delivered P each [] = tt
all-delivered P each (h ∷ more) = (each h.consumer h.delivery, all-delivered P each more)

pub all-judged : (P : Shown → Type 0) → ((id : ConsumerId) (d : Delivery) → P (Delivered id d))
    → ((number : ℕ) (id : ConsumerId) (d : Delivery) (verdict : Verdict) → P (Taken number id d verdict))
    → (seats : List Seat) (verdict : Verdict) (waits : List Handed) → AllByRecursion P (judged seats verdict waits)
all-judged P each taken seats verdict [] = tt
all-judged P each taken seats verdict (h ∷ more) = by (taker_of h.consumer seats)
  where
    by : (o : Option ℕ) → AllByRecursion P (judged_by seats o h verdict more)
    by None = (each h.consumer h.delivery, all-delivered P each (told_of seats more))
    by (Some number) = (taken number h.consumer h.delivery verdict, all-delivered P each (told_of seats more))

pub all-attached : (P : Shown → Type 0) → ((session number : ℕ) → P (Attached session number))
    → ((session number : ℕ) → P (IsBusy session number)) → (session number : ℕ) (o : Option ℕ)
    → AllByRecursion P (attached session number o)
all-attached P new busy session number None = (new session number, tt)
all-attached P new busy session number (Some other) = (busy session other, tt)

pub all-dropped : (P : Shown → Type 0) → ((session number : ℕ) → P (Dropped session number)) → (o : Option Leaving)
    (seats : List Seat) → AllByRecursion P (dropped_by o seats)
all-dropped P each None seats = tt
all-dropped P each (Some whom) seats = by (leaving whom seats)
  where
    by : (those : List Seat)
        → AllByRecursion P (map (λ (seat : Seat). Dropped seat.consumer.session.number seat.number) those)
    by [] = tt
    by (seat ∷ those) = (each seat.consumer.session.number seat.number, by those)

pub all-answers : (P : Shown → Type 0) → ((session number : ℕ) → P (Dropped session number)) → (seats : List Seat)
    (rows : List AuditRow) → AllByRecursion P (map Answered rows) → AllByRecursion P (answers seats rows)
all-answers P each seats [] own = tt
all-answers P each seats (row ∷ rows) own = (
  own.0,
  AllByRecursion-append P (dropped_by (leaving_at row) seats) (answers (seated_by (leaving_at row) seats) rows)
      (all-dropped P each (leaving_at row) seats)
      (all-answers P each (seated_by (leaving_at row) seats) rows own.1),
)

-- what is looked for in answers isn't a taker that is dropped
pub answers-filter : {B : Type 0} (f : Shown → Option B)
    → ((session number : ℕ) → f (Dropped session number) ≡ None) → (seats : List Seat) (rows : List AuditRow)
    → filter_map f (answers seats rows) ≡ filter_map f (map Answered rows)
answers-filter f none seats [] = refl
answers-filter f none seats (row ∷ rows) =
    let drops : List Shown = dropped_by (leaving_at row) seats in
    let more : List Shown = answers (seated_by (leaving_at row) seats) rows in
    ap (cons_option (f (Answered row)))
    (filter_map-append f drops more
    ∙ ap (λ l. l ++ filter_map f more)
    (filter-none f drops (all-dropped (λ (x : Shown). f x ≡ None) none (leaving_at row) seats))
    ∙ answers-filter f none (seated_by (leaving_at row) seats) rows)
