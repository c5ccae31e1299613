-- What a consumer is handed was delivered: it is an effect of an entry of the audit, and a front of the consumer's
-- deliveries.
use Rattle.std.proofs.Common.{◌≡◌, ℕ, true, List, [], ◌∷◌, Option, Some, None, filter, map, take, refl, sym, subst, inl, inr}
use Rattle.std.specs.Prelude.{All, Contains}
use Rattle.std.specs.List.{AllByRecursion, flat_map}
use Rattle.std.proofs.lemmas.Bool.{and_parts, cond-true}
use Rattle.std.proofs.lemmas.List.Elements.{All-contains, All-from_recursion}
use Rattle.qq_base.proofs.Fronts.{front-more, front-nil, front-trans}
use Rattle.qq_base.proofs.Lists.{In, In-append_left, AllByRecursion-append, AllByRecursion-in, AllByRecursion-weaker}
use Rattle.qq_base.specs.Fronts.{IsFront}
use Rattle.qq_base.specs.Ids.{client, same_consumer, same_session}
use Rattle.qq_base.specs.declared.ids.ConsumerId.{ConsumerId}
use Rattle.qq_consuming.specs.Arrivals.{Deed, arrivals, handed}
use Rattle.qq_consuming.specs.Consuming.{Received, missing, new_consumer}
use Rattle.qq_consuming.specs.Fetched.{IsOutWith, out_from}
use Rattle.qq_consuming.proofs.FetchedLemmas.{In-filter_map}
use Rattle.qq_consuming.proofs.HistoryLaws.{of-arrivals}
use Rattle.qq_consuming.proofs.MadeLemmas.{delivery-made, fetched-out, made-delivery}
use Rattle.qq_entry.specs.declared.answer.Delivery.{Delivery}
use Rattle.qq_entry.specs.declared.audit.Effect.{Effect}
use Rattle.qq_entry.specs.declared.audit.Effect.TheVariants.{Deliver, DeadOnce, Offer}
use Rattle.qq_entry.specs.declared.command.Entry.{Entry}
use Rattle.qq_entry.specs.declared.queue.QueueArgs.{QueueArgs}
use Rattle.qq_laws.specs.Always.{queue_after as state_of, queue_audit}
use Rattle.qq_model.specs.Audit.{deliveries}
use Rattle.qq_model.specs.Gate.{IsNumbered}
use Rattle.qq_model.specs.State.{empty_queue}
use Rattle.qq_model.proofs.OneConsumer.{same_consumer-refl, same_consumer-true}
use Rattle.qq_model.proofs.SessionLemmas.{same_session-true}
use Rattle.qq_model.proofs.Soundness.{Contains-in, in_contains}
use Rattle.qq_raft_model.specs.Group.{Group}
use Rattle.qq_raft_model.specs.State.{Server}
use Rattle.qq_session.specs.Clients.{Clients}
use Rattle.qq_session.specs.declared.shown.Shown.{Shown}
use Rattle.qq_session.specs.declared.shown.Shown.TheVariants.{Answered, Delivered, NoLeader, WindowFull, HasEnded, NotTaken, Attached, IsBusy, Taken, Dropped}
use Rattle.qq_taker.specs.declared.taker.Verdict.{Verdict}
use Rattle.qq_cluster_model.specs.Delivering.{applied_by, fetch, fetch_by, is_consumer_of}
use Rattle.qq_cluster_model.specs.Laws.{IsBegun, IsMade, deliveries_shown, deliveries_waiting, delivery_shown, queue_after}
use Rattle.qq_cluster_model.specs.Queue.{Queue, Event, Mutes, Ends, Submits, TellsEnded, TellsNotTaken, Attaches, Judges, Resends, Fetches, Downs, Ticks, Delivers, Loses, Copies, Writes, Syncs, Notices, Stops, Finds, after, all_said, audit_rows, begin, effects_shown, group_then, happens, leader, server_of, stepping}
use Rattle.qq_cluster_model.proofs.Consumed.{Brings, all-at, all-bring, all_deeds}
use Rattle.qq_cluster_model.proofs.Groups.{KnowsCommits, KeepsCommits, Reached, args-are, commits-grow, known-in, reached-new, reached-next}
use Rattle.qq_cluster_model.proofs.Told.{AreKnown, HasEffect, effects-at, has-later}

-- what is out with a consumer was delivered to it
abbrev pub WasDelivered : Type 0
WasDelivered =
    (args : QueueArgs) (entries : List Entry) (consumer : ConsumerId) (delivery : Delivery)
    → IsOutWith (state_of args entries) consumer delivery
    → Contains (deliveries (empty_queue args) (queue_audit args entries) consumer) delivery

-- ---- what is fetched

module _ (was : WasDelivered) where
  fetched-made : (args : QueueArgs) (s : Server) (r : Received) (ds : List Delivery)
      → AllByRecursion (IsOutWith (applied_by args s) r.consumer) ds
      → AllByRecursion (HasEffect args (take s.commit s.log)) (map (Deliver r.consumer) ds)
  fetched-made args s r [] out = tt
  fetched-made args s r (d ∷ ds) out =
      let all : List Entry = take s.commit s.log in (
        delivery-made args all r.consumer d (was args all r.consumer d out.0),
        fetched-made args s r ds out.1,
      )

  consumers-made : (args : QueueArgs) (s : Server) (all : List Received)
      → AllByRecursion (HasEffect args (take s.commit s.log)) (flat_map (fetch_by args s) all)
  consumers-made args s [] = tt
  consumers-made args s (r ∷ all) =
      AllByRecursion-append (HasEffect args (take s.commit s.log)) (fetch_by args s r) (flat_map (fetch_by args s) all)
      (fetched-made args s r (out_from (applied_by args s) r.consumer (missing r))
      (fetched-out (applied_by args s) r.consumer (missing r))) (consumers-made args s all)

  fetch-made : (args : QueueArgs) (audit : List Entry) (o : Option Server) (session : ℕ) (all : List Received)
      → ((s : Server) → o ≡ Some s → IsFront (take s.commit s.log) audit)
      → AllByRecursion (HasEffect args audit) (fetch args o session all)
  fetch-made args audit None session all known = tt
  fetch-made args audit (Some s) session all known =
      let own : List Received = filter (is_consumer_of session) all in
      AllByRecursion-weaker (HasEffect args (take s.commit s.log)) (HasEffect args audit)
      (λ effect is. has-later args (take s.commit s.log) audit effect (known s refl) is)
      (flat_map (fetch_by args s) own) (consumers-made args s own)

  asked-made : (q : Queue) (session : ℕ) (o : Option ℕ) → AreKnown q.group
      → AllByRecursion (HasEffect q.args q.group.audit) (fetch q.args (server_of o q.group) session q.consumers)
  asked-made q session None known = tt
  asked-made q session (Some k) known =
      fetch-made q.args q.group.audit (q.group.seat k).server session q.consumers (λ s up. known k s up)

  -- the effects that come to the clients are those of the audit's entries
  shown-made : (q : Queue) (event : Event) → AreKnown (group_then q event)
      → AllByRecursion (HasEffect q.args (group_then q event).audit) (effects_shown q event)
  shown-made q (Fetches session) known = asked-made q session (leader q.group) known
  shown-made q (Mutes session muted) known = tt
  shown-made q (Ends session) known = tt
  shown-made q (Submits session body) known = tt
  shown-made q (TellsEnded session) known = tt
  shown-made q (TellsNotTaken session id) known = tt
  shown-made q (Attaches session tag number) known = tt
  shown-made q (Judges verdict) known = tt
  shown-made q (Resends session) known = tt
  shown-made q (Downs session) known = tt
  shown-made q (Ticks k) known = tt
  shown-made q (Delivers at) known =
      effects-at q.args q.group (group_then q (Delivers at)) known (stepping q (Delivers at))
  shown-made q (Loses at) known = tt
  shown-made q (Copies at) known = tt
  shown-made q (Writes k) known = tt
  shown-made q (Syncs k) known = tt
  shown-made q (Notices k) known =
      effects-at q.args q.group (group_then q (Notices k)) known (stepping q (Notices k))
  shown-made q (Stops k) known = tt
  shown-made q (Finds k op) known = tt

-- ---- what comes to a consumer

-- it was delivered to the consumer, which is of a client's session
record Came (id : ConsumerId) (q : Queue) (d : Delivery) : Type 0 where
  pub made : HasEffect q.args q.group.audit (Deliver id d)
  pub sent : same_session id.session (client id.session.number) ≡ true

effect-brings : (id : ConsumerId) (clients : Clients) (q : Queue) (effect : Effect)
    → HasEffect q.args q.group.audit effect → Brings (Came id q) id clients effect
effect-brings id clients q (Deliver own d) is = λ here same.
    let own_is : own ≡ id = same_consumer-true own id same in
    let parts = and_parts (same_session own.session (client own.session.number)) _ here in
    record {
      made = subst (λ (c : ConsumerId). HasEffect q.args q.group.audit (Deliver c d)) own_is is;
      sent = subst (λ (c : ConsumerId). same_session c.session (client c.session.number) ≡ true) own_is parts.0;
    }
effect-brings id clients q (DeadOnce reason message) is = tt
effect-brings id clients q (Offer number reason message) is = tt

module _ (knows : KnowsCommits) (keeps : KeepsCommits) (was : WasDelivered) (id : ConsumerId) where
  came-later : (q : Queue) (events : List Event) → Reached q → (d : Delivery) → Came id q d → Came id (after q events) d
  came-later q events r d is = record {
    made = subst (λ (args : QueueArgs). HasEffect args (after q events).group.audit (Deliver id d))
        (sym (args-are q events))
        (has-later q.args q.group.audit (after q events).group.audit (Deliver id d) (commits-grow keeps q events r)
        is.made);
    sent = is.sent;
  }

  event-brings : (q : Queue) (event : Event) → Reached q
      → AllByRecursion (Brings (Came id (happens q event)) id q.clients) (effects_shown q event)
  event-brings q event r =
      AllByRecursion-weaker (HasEffect q.args (group_then q event).audit)
      (Brings (Came id (happens q event)) id q.clients)
      (λ effect is. effect-brings id q.clients (happens q event) effect is) (effects_shown q event)
      (shown-made was q event (known-in knows (happens q event) (reached-next q event r)))

  all-came : (q : Queue) (events : List Event) → Reached q
      → AllByRecursion (Came id (after q events)) (arrivals (all_deeds id q events))
  all-came q events r =
      all-bring (Came id) id Reached (λ q' event r'. reached-next q' event r') event-brings came-later q events r

  module _ (args : QueueArgs) (group : Group) (events : List Event) (begun : IsBegun group) where
    abbrev final : Queue
    final = queue_after args group events

    abbrev came : List Delivery
    came = arrivals (all_deeds id (begin args group) events)

    came-each : AllByRecursion (Came id final) came
    came-each = all-came (begin args group) events (reached-new args group begun)

    -- what is handed out has come
    handed-came : (d : Delivery) → In d (deliveries_shown id (all_said (begin args group) events)) → Came id final d
    handed-came d here =
        let deeds : List Deed = all_deeds id (begin args group) events in
        let out : List Delivery = handed (new_consumer id) deeds in
        let there : In d out =
        subst (λ (ds : List Delivery). In d ds) (all-at id args group events)
        (In-append_left d (deliveries_shown id (all_said (begin args group) events))
        (deliveries_waiting id final.untold) here) in
        AllByRecursion-in (Came id final) d came came-each
        (in_contains came d (All-contains (Contains came) out d (of-arrivals id deeds) (Contains-in d out there)))

    -- what is shown of a consumer's deliveries is a front of all of them
    pub shown-front : ((entries : List Entry) (deeds : List Deed) → IsNumbered id.session
        → All (Contains (deliveries (empty_queue args) (queue_audit args entries) id)) (arrivals deeds)
        → IsFront (handed (new_consumer id) deeds) (deliveries (empty_queue args) (queue_audit args entries) id))
        → IsFront (deliveries_shown id (all_said (begin args group) events))
        (deliveries (empty_queue args) (audit_rows final) id)
    shown-front law = by (deliveries_shown id (all_said (begin args group) events)) refl
      where
        same : final.args ≡ args
        same = args-are (begin args group) events

        all : List Delivery
        all = deliveries (empty_queue args) (audit_rows final) id

        whole : IsNumbered id.session → IsFront (deliveries_shown id (all_said (begin args group) events)) all
        whole numbered =
            subst (λ (own : QueueArgs). IsFront (deliveries_shown id (all_said (begin args group) events))
            (deliveries (empty_queue args) (queue_audit own final.group.audit) id)) (sym same)
            (front-trans (front-more (deliveries_shown id (all_said (begin args group) events))
            (deliveries_waiting id final.untold)) (subst (λ (out : List Delivery). IsFront out
            (deliveries (empty_queue args) (queue_audit args final.group.audit) id))
            (sym (all-at id args group events))
            (law final.group.audit (all_deeds id (begin args group) events) numbered
            (All-from_recursion (Contains (deliveries (empty_queue args) (queue_audit args final.group.audit) id)) came
            (AllByRecursion-weaker (Came id final)
            (Contains (deliveries (empty_queue args) (queue_audit args final.group.audit) id))
            (λ d is. made-delivery args final.group.audit id d
            (subst (λ (own : QueueArgs). HasEffect own final.group.audit (Deliver id d)) same is.made)) came
            came-each)))))

        by : (shown : List Delivery) → deliveries_shown id (all_said (begin args group) events) ≡ shown
            → IsFront (deliveries_shown id (all_said (begin args group) events)) all
        by [] is = subst (λ (shown : List Delivery). IsFront shown all) (sym is) (front-nil all)
        by (d ∷ ds) is =
            let one = handed-came d (subst (λ (shown : List Delivery). In d shown) (sym is) (inl refl)) in
            whole (subst IsNumbered (sym (same_session-true id.session (client id.session.number) one.sent)) (inl refl))

-- ---- what is printed as a delivery

-- a delivery that is shown, by itself or with a taker's verdict, is of this kind
record AreMade (q : Queue) (xs : List Shown) : Type 0 where
  pub delivered : (id : ConsumerId) (d : Delivery) → In (Delivered id d) xs
      → HasEffect q.args q.group.audit (Deliver id d)
  pub taken : (number : ℕ) (id : ConsumerId) (d : Delivery) (verdict : Verdict) → In (Taken number id d verdict) xs
      → HasEffect q.args q.group.audit (Deliver id d)

each-made : (q : Queue) (xs : List Shown) → AreMade q xs → AllByRecursion (IsMade q) xs
each-made q [] are = tt
each-made q (x ∷ xs) are = (
  one x (λ id d same. are.delivered id d (inl same))
      (λ number id d verdict same. are.taken number id d verdict (inl same)),
  each-made q xs (record {
    delivered = λ id d here. are.delivered id d (inr here);
    taken = λ number id d verdict here. are.taken number id d verdict (inr here);
  }),
)
  where
    one : (shown : Shown)
        → ((id : ConsumerId) (d : Delivery) → Delivered id d ≡ shown → HasEffect q.args q.group.audit (Deliver id d))
        → ((number : ℕ) (id : ConsumerId) (d : Delivery) (verdict : Verdict) → Taken number id d verdict ≡ shown
        → HasEffect q.args q.group.audit (Deliver id d)) → IsMade q shown
    one (Delivered id d) this that = this id d refl
    one (Taken number id d verdict) this that = that number id d verdict refl
    one (Answered row) this that = tt
    one (NoLeader session) this that = tt
    one (WindowFull session) this that = tt
    one (HasEnded session) this that = tt
    one (NotTaken session id) this that = tt
    one (Attached session number) this that = tt
    one (IsBusy session number) this that = tt
    one (Dropped session number) this that = tt

pub deliveries-made : KnowsCommits → KeepsCommits → WasDelivered → (args : QueueArgs) (group : Group)
    (events : List Event) → IsBegun group
    → AllByRecursion (IsMade (queue_after args group events)) (all_said (begin args group) events)
deliveries-made knows keeps was args group events begun =
    each-made (queue_after args group events) shown (record {
      delivered = λ id d here. of id d (In-filter_map (delivery_shown id) shown (Delivered id d) d
          (cond-true (same_consumer id id) (Some d) None (same_consumer-refl id)) here);
      taken = λ number id d verdict here. of id d
          (In-filter_map (delivery_shown id) shown (Taken number id d verdict) d
          (cond-true (same_consumer id id) (Some d) None (same_consumer-refl id)) here);
    })
  where
    shown : List Shown
    shown = all_said (begin args group) events

    of : (id : ConsumerId) (d : Delivery) → In d (deliveries_shown id shown)
        → HasEffect (queue_after args group events).args (queue_after args group events).group.audit (Deliver id d)
    of id d here = (handed-came knows keeps was id args group events begun d here).made
