-- What a taker sees is a run of its consumer's deliveries.
use Rattle.std.proofs.Common.{◌≡◌, ◌⊎◌, ℕ, Bool, true, false, not, List, [], ◌∷◌, ◌++◌, None, length, map, take, drop, refl, sym, ap, ◌∙◌, subst, inl, inr, append_assoc}
use Rattle.std.specs.Prelude.{All, Contains, filter_map, nat_eq}
use Rattle.std.specs.List.{AllByRecursion, list_all}
use Rattle.std.proofs.Math.Seq.{take-append_seam}
use Rattle.std.proofs.lemmas.Bool.{and_parts, false≢true}
use Rattle.std.proofs.lemmas.List.{drop_at, length-map}
use Rattle.qq_base.specs.Fronts.{IsFront}
use Rattle.qq_base.specs.declared.ids.ConsumerId.{ConsumerId}
use Rattle.qq_consuming.specs.Arrivals.{Deed, arrivals, handed}
use Rattle.qq_consuming.specs.Consuming.{new_consumer}
use Rattle.qq_entry.specs.declared.answer.Delivery.{Delivery}
use Rattle.qq_entry.specs.declared.command.Entry.{Entry}
use Rattle.qq_entry.specs.declared.queue.QueueArgs.{QueueArgs}
use Rattle.qq_laws.specs.Always.{queue_audit}
use Rattle.qq_model.specs.Audit.{deliveries}
use Rattle.qq_model.specs.Gate.{IsNumbered}
use Rattle.qq_model.specs.State.{empty_queue}
use Rattle.qq_raft_model.specs.Group.{Group}
use Rattle.qq_session.specs.Clients.{printed}
use Rattle.qq_session.specs.declared.shown.Shown.{Shown}
use Rattle.qq_session.proofs.AuditRows.{filter_map-append}
use Rattle.qq_taker.specs.Seats.{taker_of}
use Rattle.qq_taker.specs.declared.seats.Seat.{Seat}
use Rattle.qq_taker.specs.declared.taker.Seen.{Seen}
use Rattle.qq_cluster_model.specs.Laws.{IsBegun, IsNewTaker, IsRun, deliveries_shown, delivery_shown, gives, queue_after, seen_by}
use Rattle.qq_cluster_model.specs.Queue.{Queue, Event, Attaches, Judges, all_said, audit_rows, begin, consumer_of, happens, rows_told, said, seats_after}
use Rattle.qq_cluster_model.proofs.EachQueue.{said-append}
use Rattle.qq_cluster_model.proofs.Groups.{KeepsCommits, KnowsCommits}
use Rattle.qq_cluster_model.proofs.Handing.{all-attached, filter-none}
use Rattle.qq_cluster_model.proofs.Made.{WasDelivered, shown-front}
use Rattle.qq_cluster_model.proofs.TakerSees.{AreSeen, judged-seen, judged-unseen, said-own, said-unseen, seen-both, seen-none, seen-same, sees}
use Rattle.qq_cluster_model.proofs.Seating.{IsOther, IsSeated, attach-other, attach-seated, first-seated, rows-other, rows-seated}

-- they are the first ones of these
record AreFirst (seen : List Seen) (shown : List Delivery) : Type 0 where
  pub ds : List Delivery
  pub rest : List Delivery
  pub is : shown ≡ ds ++ rest
  pub are : AreSeen seen ds

not-true : (b : Bool) → not b ≡ true → b ≡ false
not-true true is = absurd (false≢true is)
not-true false is = refl

module _ (number : ℕ) (id : ConsumerId) where
  -- ---- one event

  next-stands : (q : Queue) (event : Event) → gives number event ≡ false → IsSeated number id q.seats
      → IsSeated number id (seats_after q event) ⊎ AllByRecursion (IsOther number id) (seats_after q event)
  next-stands q (Attaches session tag n) other is =
      inl (attach-seated number id (consumer_of session tag) n q.seats other is)
  next-stands q event other is = rows-seated number id q.seats (printed (rows_told q event) q.clients) is

  next-other : (q : Queue) (event : Event) → gives number event ≡ false → AllByRecursion (IsOther number id) q.seats
      → AllByRecursion (IsOther number id) (seats_after q event)
  next-other q (Attaches session tag n) other is =
      attach-other number id (consumer_of session tag) n q.seats other is
  next-other q event other is = rows-other number id q.seats (printed (rows_told q event) q.clients) is

  event-seen : (q : Queue) (event : Event) → IsSeated number id q.seats → IsSeated number id (seats_after q event)
      → AreSeen (sees number id (said q event)) (deliveries_shown id (said q event))
  event-seen q (Judges verdict) is then' = judged-seen number id q.seats verdict q.untold is
  event-seen q event is then' =
      seen-same (sees number id (said q event)) [] (deliveries_shown id (said q event)) []
      (said-unseen number id q event tt) (said-own number id q event tt then'.has) seen-none

  event-unseen : (q : Queue) (event : Event) → AllByRecursion (IsOther number id) (seats_after q event)
      → sees number id (said q event) ≡ []
  event-unseen q (Judges verdict) other = judged-unseen number id q.seats verdict q.untold other
  event-unseen q event other = said-unseen number id q event tt

  -- ---- all events

  abbrev NoneGives : List Event → Type 0
  NoneGives events = list_all (λ (event : Event). not (gives number event)) events ≡ true

  gone : (q : Queue) (events : List Event) → NoneGives events → AllByRecursion (IsOther number id) q.seats
      → sees number id (all_said q events) ≡ []
  gone q [] none other = refl
  gone q (event ∷ events) none other =
      let parts = and_parts (not (gives number event))
      (list_all (λ (e : Event). not (gives number e)) events) none in
      let next = next-other q event (not-true (gives number event) parts.0) other in
      filter_map-append (seen_by number) (said q event) (all_said (happens q event) events)
      ∙ ap (λ (l : List Seen). l ++ sees number id (all_said (happens q event) events)) (event-unseen q event next)
      ∙ gone (happens q event) events parts.1 next

  all-seen : (q : Queue) (events : List Event) → NoneGives events → IsSeated number id q.seats
      → AreFirst (sees number id (all_said q events)) (deliveries_shown id (all_said q events))
  all-seen q [] none is = record { ds = []; rest = []; is = refl; are = seen-none }
  all-seen q (event ∷ events) none is =
      by (next-stands q event (not-true (gives number event) parts.0) is) (all-seen (happens q event) events parts.1)
    where
      parts : (not (gives number event) ≡ true) × NoneGives events
      parts = and_parts (not (gives number event)) (list_all (λ (e : Event). not (gives number e)) events) none

      later : List Shown
      later = all_said (happens q event) events

      by : IsSeated number id (seats_after q event) ⊎ AllByRecursion (IsOther number id) (seats_after q event)
          → (IsSeated number id (seats_after q event) → AreFirst (sees number id later) (deliveries_shown id later))
          → AreFirst (sees number id (said q event ++ later)) (deliveries_shown id (said q event ++ later))
      by (inl seated) rest' =
          let more : AreFirst (sees number id later) (deliveries_shown id later) = rest' seated in
          let here : List Delivery = deliveries_shown id (said q event) in
          record {
            ds = here ++ more.ds;
            rest = more.rest;
            is = filter_map-append (delivery_shown id) (said q event) later
                ∙ ap (λ (l : List Delivery). here ++ l) more.is ∙ sym (append_assoc here more.ds more.rest);
            are = seen-same (sees number id (said q event ++ later))
                (sees number id (said q event) ++ sees number id later) (here ++ more.ds) (here ++ more.ds) (filter_map-append (seen_by number) (said q event) later) refl
                (seen-both (sees number id (said q event)) (sees number id later) here more.ds
                (event-seen q event is seated) more.are);
          }
      by (inr other) rest' = record {
        ds = [];
        rest = deliveries_shown id (said q event ++ later);
        is = refl;
        are = seen-same (sees number id (said q event ++ later)) [] [] []
            (filter_map-append (seen_by number) (said q event) later
            ∙ ap (λ (l : List Seen). l ++ sees number id later) (event-unseen q event other)
            ∙ gone (happens q event) events parts.1 other) refl seen-none;
      }

-- ---- the law

all-other : (number : ℕ) (id : ConsumerId) (seats : List Seat)
    → list_all (λ (seat : Seat). not (nat_eq seat.number number)) seats ≡ true
    → AllByRecursion (IsOther number id) seats
all-other number id [] new = tt
all-other number id (seat ∷ more) new =
    let parts = and_parts (not (nat_eq seat.number number))
    (list_all (λ (s : Seat). not (nat_eq s.number number)) more) new in
    (not-true (nat_eq seat.number number) parts.0, all-other number id more parts.1)

pub sees-run : KnowsCommits → KeepsCommits → WasDelivered
    → ((args : QueueArgs) (entries : List Entry) (consumer : ConsumerId) (deeds : List Deed)
    → IsNumbered consumer.session
    → All (Contains (deliveries (empty_queue args) (queue_audit args entries) consumer)) (arrivals deeds)
    → IsFront (handed (new_consumer consumer) deeds)
    (deliveries (empty_queue args) (queue_audit args entries) consumer))
    → (args : QueueArgs) (group : Group) (before since : List Event) (session tag number : ℕ) → IsBegun group
    → IsNewTaker number (consumer_of session tag) (queue_after args group before) since
    → IsRun (filter_map (seen_by number)
    (all_said (queue_after args group before) (Attaches session tag number ∷ since)))
    (length (deliveries_shown (consumer_of session tag) (all_said (begin args group) before)))
    (deliveries (empty_queue args)
    (audit_rows (queue_after args group (before ++ Attaches session tag number ∷ since))) (consumer_of session tag))
sees-run knows keeps was law args group before since session tag number begun new =
    subst (λ (seen : List Seen). IsRun seen (length early) all) (sym seen-is) (record {
      ids = first.are.ids ∙ ap (map (λ (one : Delivery). one.id)) (sym takes);
      arrivals = first.are.arrivals ∙ ap (map (λ (one : Delivery). one.arrival)) (sym takes);
    })
  where
    id : ConsumerId
    id = consumer_of session tag

    q : Queue
    q = queue_after args group before

    given : Event
    given = Attaches session tag number

    next : Queue
    next = happens q given

    early : List Delivery
    early = deliveries_shown id (all_said (begin args group) before)

    all : List Delivery
    all = deliveries (empty_queue args) (audit_rows (queue_after args group (before ++ given ∷ since))) id

    later : List Seen
    later = filter_map (seen_by number) (all_said next since)

    first : AreFirst later (deliveries_shown id (all_said next since))
    first =
        all-seen number id next since new.once
        (first-seated number id q.seats (all-other number id q.seats new.new) new.free)

    seen-is : filter_map (seen_by number) (all_said q (given ∷ since)) ≡ later
    seen-is =
        filter_map-append (seen_by number) (said q given) (all_said next since)
        ∙ ap (λ (l : List Seen). l ++ later) (said-unseen number id q given tt)

    none : deliveries_shown id (said q given) ≡ []
    none =
        filter-none (delivery_shown id) (said q given)
        (all-attached (λ (x : Shown). delivery_shown id x ≡ None) (λ s m. refl) (λ s m. refl) session number
        (taker_of id q.seats))

    split : deliveries_shown id (all_said (begin args group) (before ++ given ∷ since))
        ≡ early ++ (first.ds ++ first.rest)
    split =
        ap (deliveries_shown id) (said-append (begin args group) before (given ∷ since))
        ∙ filter_map-append (delivery_shown id) (all_said (begin args group) before) (all_said q (given ∷ since))
        ∙ ap (λ (l : List Delivery). early ++ l)
        (filter_map-append (delivery_shown id) (said q given) (all_said next since)
        ∙ ap (λ (l : List Delivery). l ++ deliveries_shown id (all_said next since)) none ∙ first.is)

    front : IsFront (deliveries_shown id (all_said (begin args group) (before ++ given ∷ since))) all
    front =
        shown-front knows keeps was id args group (before ++ given ∷ since) begun
        (λ entries deeds numbered each. law args entries id deeds numbered each)

    rest : List Delivery
    rest = first.rest ++ front.rest

    drops : drop (length early) all ≡ first.ds ++ rest
    drops =
        ap (drop (length early)) (front.is ∙ ap (λ (l : List Delivery). l ++ front.rest) split
        ∙ append_assoc early (first.ds ++ first.rest) front.rest
        ∙ ap (λ (l : List Delivery). early ++ l) (append_assoc first.ds first.rest front.rest))
        ∙ drop_at early (first.ds ++ rest) (length early) refl

    long : length later ≡ length first.ds
    long =
        sym (length-map later (λ (one : Seen). one.id)) ∙ ap length first.are.ids
        ∙ length-map first.ds (λ (one : Delivery). one.id)

    takes : take (length later) (drop (length early) all) ≡ first.ds
    takes =
        ap (take (length later)) drops ∙ ap (λ (n : ℕ). take n (first.ds ++ rest)) long
        ∙ take-append_seam first.ds rest
