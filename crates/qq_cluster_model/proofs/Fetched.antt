-- A fetch leaves nothing that is out with a session's consumers missing at it.
use Rattle.std.proofs.Common.{◌≡◌, ℕ, zero, suc, ◌<◌, ◌≤◌, Bool, true, false, not, cond, List, [], ◌∷◌, ◌++◌, Option, Some, None, map, filter, take, refl, sym, ap, ◌∙◌, subst, inl, inr, arith}
use Rattle.std.specs.Prelude.{Contains, is_some, nat_eq, nat_lt, unwrap_or, ◌||◌}
use Rattle.std.specs.List.{flat_map, list_any}
use Rattle.std.specs.Option.{option_map_or}
use Rattle.std.proofs.lemmas.Bool.{and_from, cases_lt, eq-eqb, lt-ltb, or_left, or_right}
use Rattle.qq_base.proofs.Lists.{In, In-append_left, In-append_right, In-filter, In-map, find-in}
use Rattle.qq_base.specs.Ids.{client, same_consumer, same_session}
use Rattle.qq_base.specs.declared.ids.ConsumerId.{ConsumerId}
use Rattle.qq_base.specs.declared.ids.SessionId.{SessionId}
use Rattle.qq_consuming.specs.Arrivals.{Deed, after_deeds, arrivals}
use Rattle.qq_consuming.specs.Consumers.{come, come_by, coming, consumer_at, change_at, is_at, received}
use Rattle.qq_consuming.specs.Consuming.{Received, has_arrived, ids_of, missing, new_consumer}
use Rattle.qq_consuming.specs.Fetched.{IsOutWith, out_from}
use Rattle.qq_consuming.proofs.ConsumersLemmas.{after-append as deeds-append, arrivals-append, come-keeps, coming-brings}
use Rattle.qq_consuming.proofs.History.{history}
use Rattle.qq_consuming.proofs.HistoryLaws.{least-missing, remembered}
use Rattle.qq_entry.specs.declared.answer.Delivery.{Delivery}
use Rattle.qq_entry.specs.declared.audit.Effect.{Effect}
use Rattle.qq_entry.specs.declared.audit.Effect.TheVariants.{Deliver, DeadOnce, Offer}
use Rattle.qq_entry.specs.declared.command.Entry.{Entry}
use Rattle.qq_entry.specs.declared.queue.QueueArgs.{QueueArgs}
use Rattle.qq_model.specs.Audit.{state_after}
use Rattle.qq_model.specs.Gate.{IsNumbered}
use Rattle.qq_model.specs.State.{empty_queue}
use Rattle.qq_model.proofs.OneConsumer.{same_consumer-refl, same_consumer-true}
use Rattle.qq_model.proofs.SessionLemmas.{same_session-refl}
use Rattle.qq_model.proofs.Soundness.{in_contains}
use Rattle.qq_laws.specs.Always.{queue_after as queue_of}
use Rattle.qq_raft_model.specs.Group.{Group}
use Rattle.qq_raft_model.specs.State.{Server}
use Rattle.qq_session.specs.Clients.{Clients}
use Rattle.qq_session.specs.Shown.{is_delivered_to}
use Rattle.qq_cluster_model.specs.Delivering.{applied_by, comes, fetch, fetch_by, is_consumer_of}
use Rattle.qq_cluster_model.specs.Laws.{queue_after}
use Rattle.qq_cluster_model.specs.Queue.{Queue, Event, Fetches, begin, effects_shown, happens, leader, server_of}
use Rattle.qq_cluster_model.proofs.Consumed.{after-at, all_deeds, effect_deeds, effects_deeds, event_deeds, next-at}

-- what the law of what is out says
abbrev pub IsFetched : Type 0
IsFetched =
    (args : QueueArgs) (entries : List Entry) (consumer : ConsumerId) (delivery : Delivery) (from : ℕ)
    → IsNumbered consumer.session → from ≤ delivery.id → IsOutWith (queue_of args entries) consumer delivery
    → Contains (out_from (queue_of args entries) consumer from) delivery

-- ---- lists

in-any : (d : Delivery) (ds : List Delivery) → In d ds → list_any (nat_eq d.id) (ids_of ds) ≡ true
in-any d [] here = absurd here
in-any d (one ∷ ds) (inl same) =
    or_left (nat_eq d.id one.id) (list_any (nat_eq d.id) (ids_of ds))
    (eq-eqb d.id one.id (ap (λ (x : Delivery). x.id) same))
in-any d (one ∷ ds) (inr later) =
    or_right (nat_eq d.id one.id) (list_any (nat_eq d.id) (ids_of ds)) (in-any d ds later)

any-more : (id : ℕ) (xs ys : List Delivery) → list_any (nat_eq id) (ids_of xs) ≡ true
    → list_any (nat_eq id) (ids_of (xs ++ ys)) ≡ true
any-more id [] ys any = absurd (let e : true ≡ false = sym any in cc)
any-more id (x ∷ xs) ys any = by (nat_eq id x.id) (any-more id xs ys) any
  where
    by : (b : Bool)
        → (list_any (nat_eq id) (ids_of xs) ≡ true → list_any (nat_eq id) (ids_of (xs ++ ys)) ≡ true)
        → (b || list_any (nat_eq id) (ids_of xs)) ≡ true → (b || list_any (nat_eq id) (ids_of (xs ++ ys))) ≡ true
    by true rest is = refl
    by false rest is = rest is

in-flat : {A B : Type 0} (f : A → List B) (x : A) (y : B) (xs : List A) → In x xs → In y (f x)
    → In y (flat_map f xs)
in-flat f x y [] here there = absurd here
in-flat {A} {B} f x y (first ∷ xs) (inl same) there =
    In-append_left y (f first) (flat_map f xs) (subst (λ (z : A). In y (f z)) same there)
in-flat f x y (first ∷ xs) (inr later) there =
    In-append_right y (f first) (flat_map f xs) (in-flat f x y xs later there)

-- ---- a consumer that is known stays known

comes-known : (id : ConsumerId) (clients : Clients) (effect : Effect) (all : List Received)
    → is_some (received id all) ≡ true → is_some (received id (comes clients effect all)) ≡ true
comes-known id clients (Deliver own d) all there = by (is_delivered_to clients own.session)
  where
    stays : (all : List Received) → is_some (received id (change_at own (come_by d) all)) ≡ is_some (received id all)
    stays [] = refl
    stays (r ∷ more) = by (is_at own r) (stays more)
      where
        by : (b : Bool) → is_some (received id (change_at own (come_by d) more)) ≡ is_some (received id more)
            → is_some (received id (cond b (come_by d r ∷ more) (r ∷ change_at own (come_by d) more)))
            ≡ is_some (received id (r ∷ more))
        by true rest = again (is_at id (come_by d r)) (is_at id r)
            (ap (λ (c : ConsumerId). same_consumer c id) (come-keeps d r))
          where
            again : (a b : Bool) → a ≡ b
                → is_some (cond a (Some (come_by d r)) (received id more)) ≡ is_some (cond b (Some r) (received id more))
            again true true same = refl
            again false false same = refl
            again true false same = absurd cc
            again false true same = absurd cc
        by false rest = again (is_at id r)
          where
            again : (a : Bool) → is_some (cond a (Some r) (received id (change_at own (come_by d) more)))
                ≡ is_some (cond a (Some r) (received id more))
            again true = refl
            again false = rest

    by : (b : Bool) → is_some (received id (cond b (come own d all) all)) ≡ true
    by true = stays all ∙ there
    by false = there
comes-known id clients (DeadOnce reason message) all there = there
comes-known id clients (Offer number reason message) all there = there

-- ---- what is shown arrives

own-deeds : (id : ConsumerId) (d : Delivery) (o : Option Received) → is_some o ≡ true
    → In d (arrivals (cond (same_consumer id id) (option_map_or (coming d) o []) []))
own-deeds id d None there = absurd (let e : true ≡ false = sym there in cc)
own-deeds id d (Some r) there =
    subst (λ (b : Bool). In d (arrivals (cond b (coming d r) []))) (sym (same_consumer-refl id))
    (subst (In d) (sym (coming-brings d r)) (inl refl))

effects-reach : (id : ConsumerId) (clients : Clients) (d : Delivery) (effects : List Effect) (all : List Received)
    → is_delivered_to clients id.session ≡ true → is_some (received id all) ≡ true → In (Deliver id d) effects
    → In d (arrivals (effects_deeds id clients effects all))
effects-reach id clients d [] all hears there here = absurd here
effects-reach id clients d (effect ∷ effects) all hears there (inl same) =
    subst (In d) (sym (arrivals-append (effect_deeds id clients effect all)
    (effects_deeds id clients effects (comes clients effect all))))
    (In-append_left d (arrivals (effect_deeds id clients effect all))
    (arrivals (effects_deeds id clients effects (comes clients effect all)))
    (subst (λ (e : Effect). In d (arrivals (effect_deeds id clients e all))) same
    (subst (λ (b : Bool). In d (arrivals (cond b (cond (same_consumer id id)
    (option_map_or (coming d) (received id all) []) []) []))) (sym hears) (own-deeds id d (received id all) there))))
effects-reach id clients d (effect ∷ effects) all hears there (inr later) =
    subst (In d) (sym (arrivals-append (effect_deeds id clients effect all)
    (effects_deeds id clients effects (comes clients effect all))))
    (In-append_right d (arrivals (effect_deeds id clients effect all))
    (arrivals (effects_deeds id clients effects (comes clients effect all)))
    (effects-reach id clients d effects (comes clients effect all) hears
    (comes-known id clients effect all there) later))

-- a consumer of the session is asked for
fetch-has : (args : QueueArgs) (s : Server) (session : ℕ) (all : List Received) (consumer : ConsumerId) (d : Delivery)
    → consumer.session ≡ client session → is_some (received consumer all) ≡ true
    → In d (out_from (applied_by args s) consumer (missing (consumer_at consumer all)))
    → In (Deliver consumer d) (fetch args (Some s) session all)
fetch-has args s session all consumer d own there out = by (received consumer all) refl there out
  where
    by : (o : Option Received) → received consumer all ≡ o → is_some o ≡ true
        → In d (out_from (applied_by args s) consumer (missing (unwrap_or o (new_consumer consumer))))
        → In (Deliver consumer d) (fetch args (Some s) session all)
    by None is some out' = absurd (let e : true ≡ false = sym some in cc)
    by (Some r) is some out' =
        let found = find-in (is_at consumer) all r is in
        let same : r.consumer ≡ consumer = same_consumer-true r.consumer consumer found.1 in
        let passes : is_consumer_of session r ≡ true =
        ap (λ (c : ConsumerId). same_session c.session (client session)) same
        ∙ ap (λ (x : SessionId). same_session x (client session)) own ∙ same_session-refl (client session) in
        let one : In (Deliver consumer d) (fetch_by args s r) =
        subst (λ (c : ConsumerId). In (Deliver consumer d)
        (map (Deliver c) (out_from (applied_by args s) c (missing r)))) (sym same)
        (In-map (Deliver consumer) d (out_from (applied_by args s) consumer (missing r)) out') in
        in-flat (fetch_by args s) r (Deliver consumer d) (filter (is_consumer_of session) all)
        (In-filter (is_consumer_of session) r all found.0 passes) one

-- ---- the law

pub fetch-leaves : IsFetched → (args : QueueArgs) (group : Group) (events : List Event) (session k : ℕ) (s : Server)
    (consumer : ConsumerId) (delivery : Delivery)
    → leader (queue_after args group events).group ≡ Some k
    → ((queue_after args group events).group.seat k).server ≡ Some s
    → take s.commit s.log ≡ (queue_after args group events).group.audit
    → ((queue_after args group events).clients session).muted ≡ false
    → is_some (received consumer (queue_after args group events).consumers) ≡ true
    → consumer.session ≡ client session
    → IsOutWith (state_after (empty_queue (queue_after args group events).args)
    (queue_after args group events).group.audit) consumer delivery
    → has_arrived delivery.id
    (consumer_at consumer (happens (queue_after args group events) (Fetches session)).consumers) ≡ true
fetch-leaves fetched args group events session k s consumer delivery leads up applied hears there own out =
    ap (has_arrived delivery.id) after ∙ by delivery.id refl
  where
    q : Queue
    q = queue_after args group events

    first : List Deed
    first = all_deeds consumer (begin args group) events

    more : List Deed
    more = event_deeds consumer q (Fetches session)

    before : consumer_at consumer q.consumers ≡ after_deeds first (new_consumer consumer)
    before = after-at consumer (begin args group) events

    after : consumer_at consumer (happens q (Fetches session)).consumers
        ≡ after_deeds (first ++ more) (new_consumer consumer)
    after =
        next-at consumer q (Fetches session) ∙ ap (after_deeds more) before
        ∙ sym (deeds-append first more (new_consumer consumer))

    effects : effects_shown q (Fetches session) ≡ fetch q.args (Some s) session q.consumers
    effects =
        ap (λ (o : Option ℕ). fetch q.args (server_of o q.group) session q.consumers) leads
        ∙ ap (λ (o : Option Server). fetch q.args o session q.consumers) up

    delivers : is_delivered_to q.clients consumer.session ≡ true
    delivers =
        subst (λ (x : SessionId). is_delivered_to q.clients x ≡ true) (sym own)
        (and_from (same_session (client session) (client session)) (not (q.clients session).muted)
        (same_session-refl (client session)) (ap not hears))

    -- it has come before, or it is fetched
    among : 0 < delivery.id → list_any (nat_eq delivery.id) (ids_of (arrivals (first ++ more))) ≡ true
    among positive =
        ap (λ (ds : List Delivery). list_any (nat_eq delivery.id) (ids_of ds)) (arrivals-append first more)
        ∙ elim (cases_lt delivery.id (missing (consumer_at consumer q.consumers))) [
          | inl less ↦
              any-more delivery.id (arrivals first) (arrivals more)
              (least-missing consumer first delivery.id positive
              (subst (λ (r : Received). delivery.id < missing r) before less))
          | inr most ↦
              in-any delivery (arrivals first ++ arrivals more)
              (In-append_right delivery (arrivals first) (arrivals more) (arrives most))
        ]
      where
        is-out : missing (consumer_at consumer q.consumers) ≤ delivery.id
            → In delivery (out_from (applied_by q.args s) consumer (missing (consumer_at consumer q.consumers)))
        is-out most =
            let from : ℕ = missing (consumer_at consumer q.consumers) in
            subst (λ (entries : List Entry). In delivery (out_from (state_after (empty_queue q.args) entries) consumer from))
            (sym applied)
            (in_contains (out_from (queue_of q.args q.group.audit) consumer from) delivery
            (fetched q.args q.group.audit consumer delivery from
            (subst IsNumbered (sym own) (inl refl)) most out))

        arrives : missing (consumer_at consumer q.consumers) ≤ delivery.id → In delivery (arrivals more)
        arrives most =
            effects-reach consumer q.clients delivery (effects_shown q (Fetches session)) q.consumers delivers there
            (subst (In (Deliver consumer delivery)) (sym effects)
            (fetch-has q.args s session q.consumers consumer delivery own there (is-out most)))

    by : (id : ℕ) → delivery.id ≡ id
        → has_arrived delivery.id (after_deeds (first ++ more) (new_consumer consumer)) ≡ true
    by zero is =
        let r : Received = after_deeds (first ++ more) (new_consumer consumer) in
        let positive = (history consumer (first ++ more)).received.positive in
        or_left (nat_lt delivery.id r.next) (list_any (nat_eq delivery.id) (ids_of r.waiting))
        (lt-ltb delivery.id r.next (omega (arith, is, positive)))
    by (suc id) is =
        let positive : 0 < delivery.id = omega (arith, is) in
        remembered consumer (first ++ more) delivery.id positive ∙ among positive
