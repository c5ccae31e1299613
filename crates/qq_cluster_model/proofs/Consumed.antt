-- What is shown of a consumer's deliveries is what it is handed of those that come to it.
use Rattle.std.proofs.Common.{◌≡◌, ℕ, Bool, true, false, cond, List, [], ◌∷◌, ◌++◌, Option, Some, None, map, refl, sym, ap, ◌∙◌, subst, append_assoc, append-nil}
use Rattle.std.specs.List.{AllByRecursion, cons_option}
use Rattle.std.proofs.lemmas.Bool.{cond_both}
use Rattle.qq_base.proofs.Lists.{AllByRecursion-append, AllByRecursion-weaker}
use Rattle.qq_base.specs.Ids.{client, same_consumer}
use Rattle.qq_base.specs.declared.ids.ConsumerId.{ConsumerId}
use Rattle.qq_consuming.specs.Arrivals.{Deed, after_deeds, arrivals, handed}
use Rattle.qq_consuming.specs.Consumers.{come, consumer_at, know_by, taken}
use Rattle.qq_consuming.specs.Consuming.{Received, new_consumer}
use Rattle.qq_consuming.proofs.ConsumersLemmas.{after-append as deeds-append, arrivals-append, arrives-at, come-at, deeds_at, handed-append, know_by-at, taken-at}
use Rattle.qq_entry.specs.declared.answer.Delivery.{Delivery}
use Rattle.qq_entry.specs.declared.audit.AuditRow.{AuditRow}
use Rattle.qq_entry.specs.declared.audit.Effect.{Effect}
use Rattle.qq_entry.specs.declared.audit.Effect.TheVariants.{Deliver, DeadOnce, Offer}
use Rattle.qq_entry.specs.declared.command.Command.{Command}
use Rattle.qq_entry.specs.declared.queue.QueueArgs.{QueueArgs}
use Rattle.qq_session.specs.Clients.{Clients, may_hand, printed}
use Rattle.qq_raft_model.specs.Group.{Group}
use Rattle.qq_session.specs.declared.shown.Shown.{Shown}
use Rattle.qq_session.specs.declared.shown.Shown.TheVariants.{Answered, WindowFull}
use Rattle.qq_session.specs.Shown.{is_delivered_to, said_of}
use Rattle.qq_taker.specs.Seats.{taker_of}
use Rattle.qq_taker.specs.declared.handed.Handed.{Handed}
use Rattle.qq_taker.specs.declared.seats.Seat.{Seat}
use Rattle.qq_taker.specs.declared.taker.Verdict.{Verdict}
use Rattle.qq_session.proofs.AuditRows.{filter_map-append}
use Rattle.qq_cluster_model.specs.Delivering.{come_all, comes, hand_all, hands}
use Rattle.qq_cluster_model.specs.Laws.{delivery_shown, delivery_waiting, deliveries_shown, deliveries_waiting, queue_after}
use Rattle.qq_cluster_model.specs.Queue.{Queue, Event, Mutes, Ends, Submits, TellsEnded, TellsNotTaken, Attaches, Judges, Resends, Fetches, Downs, Ticks, Delivers, Loses, Copies, Writes, Syncs, Notices, Stops, Finds, after, all_said, begin, consumer_of, effects_shown, handed_out, happens, has_leader, known, offered, rows_told, said, seats_after, told, untold_after}
use Rattle.qq_cluster_model.specs.Taking.{answers, delivered, judged, judged_by, told_of, told_then, unjudged, waiting_of, waiting_then}
use Rattle.qq_cluster_model.proofs.Handing.{all-attached, answers-filter, filter-none, told-waiting, told_of-waiting, untold-same}

-- ---- effects

-- what an effect brings to a consumer
abbrev pub effect_deeds : ConsumerId → Clients → Effect → List Received → List Deed
effect_deeds id clients (Deliver own d) all = cond (is_delivered_to clients own.session) (deeds_at id own d all) []
effect_deeds id clients _ all = []

abbrev pub effects_deeds : ConsumerId → Clients → List Effect → List Received → List Deed
effects_deeds id clients [] all = []
effects_deeds id clients (effect ∷ effects) all =
    effect_deeds id clients effect all ++ effects_deeds id clients effects (comes clients effect all)

comes-at : (id : ConsumerId) (clients : Clients) (effect : Effect) (all : List Received)
    → consumer_at id (comes clients effect all)
    ≡ after_deeds (effect_deeds id clients effect all) (consumer_at id all)
comes-at id clients (Deliver own d) all = by (is_delivered_to clients own.session)
  where
    by : (b : Bool) → consumer_at id (cond b (come own d all) all)
        ≡ after_deeds (cond b (deeds_at id own d all) []) (consumer_at id all)
    by true = come-at id own d all
    by false = refl
comes-at id clients (DeadOnce reason message) all = refl
comes-at id clients (Offer number reason message) all = refl

come_all-at : (id : ConsumerId) (clients : Clients) (effects : List Effect) (all : List Received)
    → consumer_at id (come_all clients effects all)
    ≡ after_deeds (effects_deeds id clients effects all) (consumer_at id all)
come_all-at id clients [] all = refl
come_all-at id clients (effect ∷ effects) all =
    let next : List Received = comes clients effect all in
    come_all-at id clients effects next
    ∙ ap (after_deeds (effects_deeds id clients effects next)) (comes-at id clients effect all)
    ∙ sym (deeds-append (effect_deeds id clients effect all) (effects_deeds id clients effects next)
    (consumer_at id all))

-- ---- what is handed out

shown-map : (id own : ConsumerId) (ds : List Delivery)
    → deliveries_waiting id (map (λ (d : Delivery). let h : Handed = record { consumer = own; delivery = d } in h) ds)
    ≡ cond (same_consumer own id) ds []
shown-map id own [] = by (same_consumer own id)
  where
    by : (b : Bool) → deliveries_waiting id [] ≡ cond b [] []
    by true = refl
    by false = refl
shown-map id own (d ∷ ds) = by (same_consumer own id) (shown-map id own ds)
  where
    rest : List Delivery
    rest =
        deliveries_waiting id (map (λ (d : Delivery). let h : Handed = record { consumer = own; delivery = d } in h) ds)

    by : (b : Bool) → rest ≡ cond b ds [] → cons_option (cond b (Some d) None) rest ≡ cond b (d ∷ ds) []
    by true is = ap (λ (l : List Delivery). d ∷ l) is
    by false is = is

hands-at : (id : ConsumerId) (clients : Clients) (effect : Effect) (all : List Received)
    → deliveries_waiting id (hands clients effect all)
    ≡ handed (consumer_at id all) (effect_deeds id clients effect all)
hands-at id clients (Deliver own d) all = by (is_delivered_to clients own.session)
  where
    by : (b : Bool)
        → deliveries_waiting id (cond b
        (map (λ (d : Delivery). let h : Handed = record { consumer = own; delivery = d } in h) (taken own d all)) [])
        ≡ handed (consumer_at id all) (cond b (deeds_at id own d all) [])
    by true = shown-map id own (taken own d all) ∙ taken-at id own d all
    by false = refl
hands-at id clients (DeadOnce reason message) all = refl
hands-at id clients (Offer number reason message) all = refl

hand_all-at : (id : ConsumerId) (clients : Clients) (effects : List Effect) (all : List Received)
    → deliveries_waiting id (hand_all clients effects all)
    ≡ handed (consumer_at id all) (effects_deeds id clients effects all)
hand_all-at id clients [] all = refl
hand_all-at id clients (effect ∷ effects) all =
    let next : List Received = comes clients effect all in
    let first : List Deed = effect_deeds id clients effect all in
    let more : List Deed = effects_deeds id clients effects next in
    filter_map-append (delivery_waiting id) (hands clients effect all) (hand_all clients effects next)
    ∙ ap (λ (ds : List Delivery). ds ++ deliveries_waiting id (hand_all clients effects next))
    (hands-at id clients effect all)
    ∙ ap (λ (ds : List Delivery). handed (consumer_at id all) first ++ ds)
    (hand_all-at id clients effects next ∙ ap (λ (r : Received). handed r more) (comes-at id clients effect all))
    ∙ sym (handed-append first more (consumer_at id all))

-- ---- what is shown

pub delivered-at : (id : ConsumerId) (hs : List Handed) → deliveries_shown id (delivered hs) ≡ deliveries_waiting id hs
delivered-at id [] = refl
delivered-at id (h ∷ more) =
    ap (cons_option (cond (same_consumer h.consumer id) (Some h.delivery) None)) (delivered-at id more)

pub answers-none : (id : ConsumerId) (rows : List AuditRow) → deliveries_shown id (map Answered rows) ≡ []
answers-none id [] = refl
answers-none id (row ∷ rows) = answers-none id rows

pub offered-none : (id : ConsumerId) (ready : Bool) (session : ℕ) (commands : List Command)
    → deliveries_shown id (said_of ready session commands) ≡ []
offered-none id true session commands = refl
offered-none id false session [] = refl
offered-none id false session (command ∷ commands) = offered-none id false session commands

-- what waits for a verdict is shown at it, and behind it what needs none
judged-at : (id : ConsumerId) (seats : List Seat) (verdict : Verdict) (waits : List Handed)
    → deliveries_shown id (judged seats verdict waits) ++ deliveries_waiting id (unjudged seats waits)
    ≡ deliveries_waiting id waits
judged-at id seats verdict [] = refl
judged-at id seats verdict (h ∷ more) =
    by (taker_of h.consumer seats) ∙ join (delivery_waiting id h)
    ∙ ap (cons_option (delivery_waiting id h))
    (ap (λ (l : List Delivery). l ++ deliveries_waiting id (waiting_of seats more))
    (delivered-at id (told_of seats more))
    ∙ sym (filter_map-append (delivery_waiting id) (told_of seats more) (waiting_of seats more))
    ∙ ap (deliveries_waiting id) (told_of-waiting seats more))
  where
    told' : List Delivery
    told' = deliveries_shown id (delivered (told_of seats more))

    rest : List Delivery
    rest = deliveries_waiting id (waiting_of seats more)

    by : (o : Option ℕ) → deliveries_shown id (judged_by seats o h verdict more) ++ rest
        ≡ cons_option (delivery_waiting id h) told' ++ rest
    by None = refl
    by (Some number) = refl

    join : (o : Option Delivery) → cons_option o told' ++ rest ≡ cons_option o (told' ++ rest)
    join None = refl
    join (Some d) = refl

-- ---- an event

abbrev pub event_deeds : ConsumerId → Queue → Event → List Deed
event_deeds id q event = effects_deeds id q.clients (effects_shown q event) (known q.clients event q.consumers)

-- a consumer that is known from now on is as it was
known-at : (id : ConsumerId) (clients : Clients) (event : Event) (all : List Received)
    → consumer_at id (known clients event all) ≡ consumer_at id all
known-at id clients (Submits session body) all =
    cond_both (may_hand (clients session).numbers) (know_by (client session) body all) all
    (λ (l : List Received). consumer_at id l ≡ consumer_at id all) (λ _. know_by-at id (client session) body all)
    (λ _. refl)
known-at id clients (Mutes session muted) all = refl
known-at id clients (Ends session) all = refl
known-at id clients (TellsEnded session) all = refl
known-at id clients (TellsNotTaken session own) all = refl
known-at id clients (Attaches session tag number) all = refl
known-at id clients (Judges verdict) all = refl
known-at id clients (Resends session) all = refl
known-at id clients (Fetches session) all = refl
known-at id clients (Downs session) all = refl
known-at id clients (Ticks k) all = refl
known-at id clients (Delivers at) all = refl
known-at id clients (Loses at) all = refl
known-at id clients (Copies at) all = refl
known-at id clients (Writes k) all = refl
known-at id clients (Syncs k) all = refl
known-at id clients (Notices k) all = refl
known-at id clients (Stops k) all = refl
known-at id clients (Finds k op) all = refl

pub next-at : (id : ConsumerId) (q : Queue) (event : Event)
    → consumer_at id (happens q event).consumers ≡ after_deeds (event_deeds id q event) (consumer_at id q.consumers)
next-at id q event =
    come_all-at id q.clients (effects_shown q event) (known q.clients event q.consumers)
    ∙ ap (after_deeds (event_deeds id q event)) (known-at id q.clients event q.consumers)

-- what an event shows of a consumer's deliveries, and those that wait then, are those that waited, and what is handed out
abbrev pub Goes : ConsumerId → Queue → Event → List Shown → List Handed → Type 0
Goes id q event shown waits =
    deliveries_shown id shown ++ deliveries_waiting id waits
    ≡ deliveries_waiting id q.untold ++ handed (consumer_at id q.consumers) (event_deeds id q event)

told-at : (id : ConsumerId) (q : Queue) (event : Event)
    → Goes id q event (told q event) (waiting_then q.untold (seats_after q event) (handed_out q event))
told-at id q event =
    let rows : List AuditRow = printed (rows_told q event) q.clients in
    let all : List Received = known q.clients event q.consumers in
    let seats : List Seat = seats_after q event in
    let new : List Handed = handed_out q event in
    let out : List Handed = told_then q.untold seats new in
    let rest : List Handed = waiting_then q.untold seats new in
    ap (λ (ds : List Delivery). ds ++ deliveries_waiting id rest)
    (filter_map-append (delivery_shown id) (answers q.seats rows) (delivered out)
    ∙ ap (λ (ds : List Delivery). ds ++ deliveries_shown id (delivered out))
    (answers-filter (delivery_shown id) (λ session number. refl) q.seats rows ∙ answers-none id rows)
    ∙ delivered-at id out)
    ∙ sym (filter_map-append (delivery_waiting id) out rest)
    ∙ ap (deliveries_waiting id) (told-waiting q.untold seats new)
    ∙ filter_map-append (delivery_waiting id) q.untold new
    ∙ ap (λ (ds : List Delivery). deliveries_waiting id q.untold ++ ds)
    (hand_all-at id q.clients (effects_shown q event) all
    ∙ ap (λ (r : Received). handed r (event_deeds id q event)) (known-at id q.clients event q.consumers))

-- nothing is shown, and nothing is handed out
quiet-at : (id : ConsumerId) (waits rest : List Handed) (shown : List Shown) → rest ≡ waits
    → deliveries_shown id shown ≡ []
    → deliveries_shown id shown ++ deliveries_waiting id rest ≡ deliveries_waiting id waits ++ []
quiet-at id waits rest shown same none =
    ap (λ (ds : List Delivery). ds ++ deliveries_waiting id rest) none ∙ ap (deliveries_waiting id) same
    ∙ sym (append-nil (deliveries_waiting id waits))

said-at : (id : ConsumerId) (q : Queue) (event : Event) → Goes id q event (said q event) (untold_after q event)
said-at id q (Submits session body) =
    let event : Event = Submits session body in
    quiet-at id q.untold (untold_after q event) (said q event) (untold-same q event tt)
    (cond_both (may_hand (q.clients session).numbers) (said_of (has_leader q) session (offered q.clients event))
    (WindowFull session ∷ []) (λ (shown : List Shown). deliveries_shown id shown ≡ [])
    (λ _. offered-none id (has_leader q) session (offered q.clients event)) (λ _. refl))
said-at id q (Resends session) =
    quiet-at id q.untold (untold_after q (Resends session)) (said q (Resends session))
    (untold-same q (Resends session) tt)
    (offered-none id (has_leader q) session (offered q.clients (Resends session)))
said-at id q (Downs session) =
    quiet-at id q.untold (untold_after q (Downs session)) (said q (Downs session)) (untold-same q (Downs session) tt)
    (offered-none id (has_leader q) session (offered q.clients (Downs session)))
said-at id q (TellsEnded session) =
    quiet-at id q.untold (untold_after q (TellsEnded session)) (said q (TellsEnded session))
    (untold-same q (TellsEnded session) tt) refl
said-at id q (TellsNotTaken session own) =
    quiet-at id q.untold (untold_after q (TellsNotTaken session own)) (said q (TellsNotTaken session own))
    (untold-same q (TellsNotTaken session own) tt) refl
said-at id q (Attaches session tag number) =
    let event : Event = Attaches session tag number in
    quiet-at id q.untold (untold_after q event) (said q event) (untold-same q event tt)
    (filter-none (delivery_shown id) (said q event)
    (all-attached (λ (x : Shown). delivery_shown id x ≡ None) (λ s n. refl) (λ s n. refl) session number
    (taker_of (consumer_of session tag) q.seats)))
said-at id q (Judges verdict) =
    judged-at id q.seats verdict q.untold ∙ sym (append-nil (deliveries_waiting id q.untold))
said-at id q (Mutes session muted) = told-at id q (Mutes session muted)
said-at id q (Ends session) = told-at id q (Ends session)
said-at id q (Fetches session) = told-at id q (Fetches session)
said-at id q (Ticks k) = told-at id q (Ticks k)
said-at id q (Delivers at) = told-at id q (Delivers at)
said-at id q (Loses at) = told-at id q (Loses at)
said-at id q (Copies at) = told-at id q (Copies at)
said-at id q (Writes k) = told-at id q (Writes k)
said-at id q (Syncs k) = told-at id q (Syncs k)
said-at id q (Notices k) = told-at id q (Notices k)
said-at id q (Stops k) = told-at id q (Stops k)
said-at id q (Finds k op) = told-at id q (Finds k op)

-- ---- all events

abbrev pub all_deeds : ConsumerId → Queue → List Event → List Deed
all_deeds id q [] = []
all_deeds id q (event ∷ events) = event_deeds id q event ++ all_deeds id (happens q event) events

pub after-at : (id : ConsumerId) (q : Queue) (events : List Event)
    → consumer_at id (after q events).consumers ≡ after_deeds (all_deeds id q events) (consumer_at id q.consumers)
after-at id q [] = refl
after-at id q (event ∷ events) =
    let next : Queue = happens q event in
    after-at id next events ∙ ap (after_deeds (all_deeds id next events)) (next-at id q event)
    ∙ sym (deeds-append (event_deeds id q event) (all_deeds id next events) (consumer_at id q.consumers))

shown-at : (id : ConsumerId) (q : Queue) (events : List Event)
    → deliveries_shown id (all_said q events) ++ deliveries_waiting id (after q events).untold
    ≡ deliveries_waiting id q.untold ++ handed (consumer_at id q.consumers) (all_deeds id q events)
shown-at id q [] = sym (append-nil (deliveries_waiting id q.untold))
shown-at id q (event ∷ events) =
    let next : Queue = happens q event in
    let first : List Deed = event_deeds id q event in
    let more : List Deed = all_deeds id next events in
    let here : List Delivery = deliveries_shown id (said q event) in
    let later : List Delivery = deliveries_shown id (all_said next events) in
    let rest : List Delivery = deliveries_waiting id (after next events).untold in
    let r : Received = consumer_at id q.consumers in
    ap (λ (ds : List Delivery). ds ++ rest)
    (filter_map-append (delivery_shown id) (said q event) (all_said next events))
    ∙ append_assoc here later rest
    ∙ ap (λ (ds : List Delivery). here ++ ds) (shown-at id next events)
    ∙ sym (append_assoc here (deliveries_waiting id next.untold) (handed (consumer_at id next.consumers) more))
    ∙ ap (λ (ds : List Delivery). ds ++ handed (consumer_at id next.consumers) more) (said-at id q event)
    ∙ append_assoc (deliveries_waiting id q.untold) (handed r first) (handed (consumer_at id next.consumers) more)
    ∙ ap (λ (ds : List Delivery). deliveries_waiting id q.untold ++ ds)
    (ap (λ (c : Received). handed r first ++ handed c more) (next-at id q event) ∙ sym (handed-append first more r))

-- where nothing has waited
pub all-at : (id : ConsumerId) (args : QueueArgs) (group : Group) (events : List Event)
    → deliveries_shown id (all_said (begin args group) events)
    ++ deliveries_waiting id (queue_after args group events).untold
    ≡ handed (new_consumer id) (all_deeds id (begin args group) events)
all-at id args group events = shown-at id (begin args group) events

-- ---- what arrives

-- an effect that reaches a consumer is of this kind
abbrev pub Brings : (Delivery → Type 0) → ConsumerId → Clients → Effect → Type 0
Brings P id clients (Deliver own d) =
    is_delivered_to clients own.session ≡ true → same_consumer own id ≡ true → P d
Brings P id clients _ = Unit {0}

effect-brings : (P : Delivery → Type 0) (id : ConsumerId) (clients : Clients) (effect : Effect)
    (all : List Received) → Brings P id clients effect
    → AllByRecursion P (arrivals (effect_deeds id clients effect all))
effect-brings P id clients (Deliver own d) all is = by (is_delivered_to clients own.session) refl
  where
    by : (b : Bool) → is_delivered_to clients own.session ≡ b
        → AllByRecursion P (arrivals (cond b (deeds_at id own d all) []))
    by true here = arrives-at P id own d all (λ same. is here same)
    by false other = tt
effect-brings P id clients (DeadOnce reason message) all is = tt
effect-brings P id clients (Offer number reason message) all is = tt

pub effects-bring : (P : Delivery → Type 0) (id : ConsumerId) (clients : Clients) (effects : List Effect)
    (all : List Received) → AllByRecursion (Brings P id clients) effects
    → AllByRecursion P (arrivals (effects_deeds id clients effects all))
effects-bring P id clients [] all each = tt
effects-bring P id clients (effect ∷ effects) all each =
    let next : List Received = comes clients effect all in
    let first : List Deed = effect_deeds id clients effect all in
    let more : List Deed = effects_deeds id clients effects next in
    subst (AllByRecursion P) (sym (arrivals-append first more))
    (AllByRecursion-append P (arrivals first) (arrivals more) (effect-brings P id clients effect all each.0)
    (effects-bring P id clients effects next each.1))

-- what each event brings is of a kind that stays
pub all-bring : (P : Queue → Delivery → Type 0) (id : ConsumerId) (Holds : Queue → Type 0)
    → ((q : Queue) (event : Event) → Holds q → Holds (happens q event))
    → ((q : Queue) (event : Event) → Holds q
    → AllByRecursion (Brings (P (happens q event)) id q.clients) (effects_shown q event))
    → ((q : Queue) (events : List Event) → Holds q → (d : Delivery) → P q d → P (after q events) d)
    → (q : Queue) (events : List Event) → Holds q
    → AllByRecursion (P (after q events)) (arrivals (all_deeds id q events))
all-bring P id Holds next brings later q [] holds = tt
all-bring P id Holds next brings later q (event ∷ events) holds =
    let then' : Queue = happens q event in
    let first : List Deed = event_deeds id q event in
    let more : List Deed = all_deeds id then' events in
    subst (AllByRecursion (P (after then' events))) (sym (arrivals-append first more))
    (AllByRecursion-append (P (after then' events)) (arrivals first) (arrivals more)
    (AllByRecursion-weaker (P then') (P (after then' events)) (later then' events (next q event holds))
    (arrivals first)
    (effects-bring (P then') id q.clients (effects_shown q event) (known q.clients event q.consumers)
    (brings q event holds))) (all-bring P id Holds next brings later then' events (next q event holds)))
