-- A queue has no more consumers than it may, and a cancelled one has something out: what a command itself keeps of it.
use Rattle.std.proofs.Common.{◌≡◌, ℕ, ◌+◌, ◌-◌, ◌<◌, ◌≤◌, Bool, true, false, ◌&&◌, cond, List, [], ◌∷◌, Option, Some, None, map, length, refl, sym, ap, ◌∙◌, subst, inl, inr, arith, length-append, if◌then◌else◌}
use Rattle.std.specs.Prelude.{nat_eq, nat_le, filter}
use Rattle.std.proofs.lemmas.Bool.{false≢true, cond_both, and_from, cases_eq, leb-false, eq-eqb, eqb-true, not-true}
use Rattle.std.proofs.lemmas.List.{length-map}
use Rattle.qq_base.specs.declared.ids.Index.{Index}
use Rattle.qq_base.specs.declared.ids.ConsumerId.{ConsumerId}
use Rattle.qq_base.specs.Ids.{same_consumer}
use Rattle.qq_entry.specs.declared.answer.Answer.TheVariants as answer
use Rattle.qq_entry.specs.declared.answer.Cause.TheVariants.{SingleActive, NumberSpent, ConsumersFull, NoConsumer}
use Rattle.qq_entry.specs.declared.answer.Full.{Full}
use Rattle.qq_entry.specs.declared.command.Mode.{Mode}
use Rattle.qq_entry.specs.declared.command.Mode.TheVariants.{Prefetch, Link}
use Rattle.qq_entry.specs.declared.message.Message.{Message}
use Rattle.qq_entry.specs.declared.message.Reason.{Reason}
use Rattle.qq_entry.specs.declared.message.Reason.TheVariants as reason
use Rattle.qq_entry.specs.declared.queue.Strategy.{Strategy}
use Rattle.qq_entry.specs.declared.queue.Strategy.TheVariants.{Absent, AtMostOnce, AtLeastOnce}
use Rattle.qq_model.specs.declared.TheConstants.{MOST_CONSUMERS}
use Rattle.qq_model.specs.declared.consumer.Consumer.{Consumer}
use Rattle.qq_model.specs.declared.consumer.Outcome.{Outcome}
use Rattle.qq_model.specs.declared.consumer.Outcome.TheVariants.{Settled, Returned, Discarded}
use Rattle.qq_model.specs.declared.place.Key.TheVariants.{Back}
use Rattle.qq_model.specs.declared.place.GoneReason.TheVariants as gone
use Rattle.qq_model.specs.declared.place.Place.{Place}
use Rattle.qq_model.specs.declared.place.Place.TheVariants.{Ready, Gone}
use Rattle.qq_model.specs.declared.place.Row.{Row}
use Rattle.qq_model.specs.State.{State}
use Rattle.qq_model.specs.Gate.{greatest_tag}
use Rattle.qq_model.specs.Choice.{next_message, is_out_to, out_count}
use Rattle.qq_model.specs.Limits.{is_ready, is_with_consumer, publish_limit, has_passed}
use Rattle.qq_model.specs.Changes.{Progress, put_row, put_consumer, consumer_of, die, die_by, go_back, return_row, is_needed, drop_finished, take_turn, begin_to_wait, credit_of}
use Rattle.qq_model.specs.Commands.{Acted, reply, refuse, set_state, enqueue_by, enqueue, get_by, get, new_consumer, join, subscribe, cancel_by, cancel, set_credit, credit_by_mode, credit_by, give_credit, delivered_row, end_delivery, end_delivery_by, end_deliveries, finish_by, finish, purge, purge_row}
use Rattle.qq_base.proofs.Lists.{In, In-append_cases, In-filter_passes, fold-keeps}
use Rattle.qq_model.proofs.Choices.{next_message-in}
use Rattle.qq_model.proofs.Holders.{In-put_consumer}
use Rattle.qq_model.proofs.Ids.{consumer-found}
use Rattle.qq_model.proofs.Indices.{Rises, indices, unique}
use Rattle.qq_model.proofs.OutCounts.{not_out, out-cons, out-push}

-- What is out ----------------------------------------------------------------------------------------------

no_less_if : (a b : Bool) → (a ≡ true → b ≡ true) → cond a 1 0 ≤ cond b 1 0
no_less_if true b implies = subst (λ (c : Bool). 1 ≤ cond c 1 0) (sym (implies refl)) (omega arith)
no_less_if false b implies = omega arith

-- rows change, and what was out with a consumer still is
out-no_less : (id : ConsumerId) (f : Row → Row) (rows : List Row)
    → ((row : Row) → In row rows → is_out_to id row.place ≡ true → is_out_to id (f row).place ≡ true)
    → out_count id rows ≤ out_count id (map f rows)
out-no_less id f [] stays = omega arith
out-no_less id f (row ∷ rows) stays =
    let rest = out-no_less id f rows (λ one later. stays one (inr later)) in
    let here = no_less_if (is_out_to id row.place) (is_out_to id (f row).place) (stays row (inl refl)) in
    omega (arith, out-cons id row rows, out-cons id (f row) (map f rows), rest, here)

-- a row that wasn't out with the consumer is another
pub out-put_more : (id : ConsumerId) (old new : Row) (rows : List Row) → Rises (indices rows) → In old rows
    → new.index.0 ≡ old.index.0 → is_out_to id old.place ≡ false → out_count id rows ≤ out_count id (put_row new rows)
out-put_more id old new rows rising here index none =
    out-no_less id (λ (row : Row). if nat_eq row.index.0 new.index.0 then new else row) rows
    (λ row there is.
    cond_both (nat_eq row.index.0 new.index.0) new row (λ (r : Row). is_out_to id r.place ≡ true)
    (λ same.
    let itself : row ≡ old =
    unique row old rows rising there here (eqb-true row.index.0 new.index.0 same ∙ index) in
    absurd (false≢true (sym none ∙ ap (λ (r : Row). is_out_to id r.place) (sym itself) ∙ is)))
    (λ _. is))

-- what is ready is with nobody
pub ready-in : (place : Place) → is_ready place ≡ true → is_with_consumer place ≡ false
ready-in (Ready key) ready = refl
ready-in _ ready = absurd (false≢true ready)

-- a cancelled consumer has something out
abbrev pub Busy : List Row → List Consumer → Type 0
Busy rows consumers = (one : Consumer) → In one consumers → one.cancelled ≡ true → 0 < out_count one.id rows

-- those of them that are needed
busy-needed : (rows : List Row) (consumers : List Consumer) → Busy rows (filter (is_needed rows) consumers)
busy-needed rows consumers one here over =
    let needed = In-filter_passes (is_needed rows) one consumers here in
    some (out_count one.id rows) (λ none. false≢true
    (sym (not-true (one.cancelled && nat_eq (out_count one.id rows) 0) needed)
    ∙ and_from one.cancelled (nat_eq (out_count one.id rows) 0) over (eq-eqb (out_count one.id rows) 0 none)))
  where
    some : (n : ℕ) → (n ≡ 0 → ⊥) → 0 < n
    some n differs = elim (cases_eq n 0) [ inl none ↦ absurd (differs none) | inr other ↦ omega arith ]

pub busy-row : (rows : List Row) (consumers : List Consumer) (old new : Row) → Rises (indices rows) → In old rows
    → new.index.0 ≡ old.index.0 → is_with_consumer old.place ≡ false → Busy rows consumers
    → Busy (put_row new rows) consumers
busy-row rows consumers old new rising here index none busy one there over =
    let more = out-put_more one.id old new rows rising here index (not_out one.id old.place none) in
    let before = busy one there over in
    omega (arith, more, before)

-- a consumer changes, but for its id and for being cancelled
pub busy-consumer : (rows : List Row) (consumers : List Consumer) (old new : Consumer) → In old consumers
    → new.id ≡ old.id → new.cancelled ≡ old.cancelled → Busy rows consumers → Busy rows (put_consumer new consumers)
busy-consumer rows consumers old new here same flag busy one there over =
    elim (In-put_consumer one new consumers there) [
      | inl itself ↦
          let some = busy old here (sym flag ∙ ap (λ (c : Consumer). c.cancelled) (sym itself) ∙ over) in
          subst (λ (i : ConsumerId). 0 < out_count i rows) (sym same ∙ ap (λ (c : Consumer). c.id) (sym itself)) some
      | inr before ↦ busy one before over
    ]

-- The command itself ---------------------------------------------------------------------------------------

-- few consumers, and each cancelled one has something out
pub record Bounds (p : Progress) : Type 0 where
  pub few : length p.state.consumers ≤ MOST_CONSUMERS
  pub busy : Busy p.state.rows p.state.consumers

abbrev pub BoundsOf : Acted → Type 0
BoundsOf a = Bounds a.progress

pub put-few : (new : Consumer) (consumers : List Consumer) → length (put_consumer new consumers) ≡ length consumers
put-few new consumers =
    length-map consumers (λ (one : Consumer). if same_consumer one.id new.id then new else one)

pub filter-few : {A : Type 0} (keeps : A → Bool) (xs : List A) → length (filter keeps xs) ≤ length xs
filter-few keeps [] = omega arith
filter-few {A = A} keeps (x ∷ xs) =
    let rest = filter-few keeps xs in
    cond_both (keeps x) (x ∷ filter keeps xs) (filter keeps xs) (λ (ys : List A). length ys ≤ length (x ∷ xs))
    (λ _. omega arith) (λ _. omega arith)

-- a consumer may begin to wait
waits-bounds : (before : ℕ) (id : ConsumerId) (p : Progress) → Bounds p
    → Bounds (set_state (begin_to_wait before id p.state) p)
waits-bounds before id p it =
    cond_both _ (take_turn (consumer_of id p.state.consumers) p.state) p.state
    (λ (s : State). Bounds (set_state s p)) (λ _. by (consumer_of id p.state.consumers) refl)
    (λ _. record { few = it.few; busy = it.busy })
  where
    by : (o : Option Consumer) → consumer_of id p.state.consumers ≡ o → Bounds (set_state (take_turn o p.state) p)
    by None found = record { few = it.few; busy = it.busy }
    by (Some consumer) found =
        let new : Consumer = record consumer { turn = p.state.turns + 1 } in
        record {
          few = omega (arith, put-few new p.state.consumers, it.few);
          busy = busy-consumer p.state.rows p.state.consumers consumer new
              (consumer-found id p.state.consumers consumer found) refl refl it.busy;
        }

pub enqueue-bounds : (index : Index) (message : Message) (p : Progress) → Bounds p → BoundsOf (enqueue index message p)
unfolding enqueue
enqueue-bounds index message p it = by (publish_limit p.state.args p.state.rows)
  where
    by : (o : Option Full) → BoundsOf (enqueue_by o index message p)
    by (Some full) = it
    by None = record {
      few = it.few;
      busy = λ one here over.
          let same = out-push one.id p.state.rows (record {
            index = index;
            arrival = p.state.arrivals + 1;
            count = 0;
            size = message.size;
            place = Ready (Back (p.state.orders + 1));
          }) refl in
          let before = it.busy one here over in
          omega (arith, same, before);
    }

pub get-bounds : (p : Progress) → Rises (indices p.state.rows) → Bounds p → BoundsOf (get p)
unfolding get
get-bounds p rising it =
    cond_both p.state.args.single_active (refuse SingleActive p) (get_by (next_message p.state.rows) p) BoundsOf
    (λ _. it) (λ _. by (next_message p.state.rows) refl)
  where
    by : (o : Option Row) → next_message p.state.rows ≡ o → BoundsOf (get_by o p)
    by None found = it
    by (Some row) found =
        let some = next_message-in p.state.rows row found in record {
          few = it.few;
          busy = busy-row p.state.rows p.state.consumers row (record row { place = Gone gone.Got }) rising some.0 refl
              (ready-in row.place some.1) it.busy;
        }

pub subscribe-bounds : (id : ConsumerId) (mode : Mode) (p : Progress) → Bounds p → BoundsOf (subscribe id mode p)
unfolding subscribe
subscribe-bounds id mode p it =
    cond_both (nat_le id.tag (greatest_tag id.session p.state.sessions)) (refuse NumberSpent p) _ BoundsOf
    (λ _. it) (λ _.
    cond_both (nat_le MOST_CONSUMERS (length p.state.consumers)) (refuse ConsumersFull p)
    (reply answer.Subscribed (set_state (join id mode p.state) p)) BoundsOf (λ _. it)
    (λ room.
    let below = leb-false MOST_CONSUMERS (length p.state.consumers) room in
    let long = length-append p.state.consumers (new_consumer id mode (p.state.turns + 1) ∷ []) in
    record {
      few = omega (arith, below, long);
      busy = λ one here over. elim (In-append_cases one p.state.consumers _ here) [
        | inl old ↦ it.busy one old over
        | inr new ↦ elim new [
          | inl same ↦ absurd (false≢true (ap (λ (c : Consumer). c.cancelled) (sym same) ∙ over))
          | inr no' ↦ absurd no'
        ]
      ];
    }))

pub cancel-bounds : (id : ConsumerId) (p : Progress) → Bounds p → BoundsOf (cancel id p)
unfolding cancel
cancel-bounds id p it = by (consumer_of id p.state.consumers)
  where
    by : (o : Option Consumer) → BoundsOf (cancel_by o p)
    by None = it
    by (Some consumer) =
        let new : Consumer = record consumer { cancelled = true } in
        let consumers : List Consumer = put_consumer new p.state.consumers in
        cond_both consumer.cancelled (refuse NoConsumer p) _ BoundsOf (λ _. it)
        (λ _. record {
          few = omega (
            arith,
            filter-few (is_needed p.state.rows) consumers,
            put-few new p.state.consumers,
            it.few,
          );
          busy = busy-needed p.state.rows consumers;
        })

pub credit-bounds : (id : ConsumerId) (credit : ℕ) (p : Progress) → Bounds p → BoundsOf (give_credit id credit p)
unfolding give_credit
credit-bounds id credit p it = by (consumer_of id p.state.consumers) refl
  where
    in_mode : (mode : Mode) (consumer : Consumer) → consumer_of id p.state.consumers ≡ Some consumer
        → BoundsOf (credit_by_mode mode consumer credit p)
    in_mode (Prefetch prefetch) consumer found = it
    in_mode Link consumer found =
        let new : Consumer = record consumer { credit = credit - consumer.count } in
        waits-bounds (credit_of consumer.id p.state.rows p.state.consumers) consumer.id
        (set_state (set_credit consumer credit p.state) p) (record {
          few = omega (arith, put-few new p.state.consumers, it.few);
          busy = busy-consumer p.state.rows p.state.consumers consumer new
              (consumer-found id p.state.consumers consumer found) refl refl it.busy;
        })

    by : (o : Option Consumer) → consumer_of id p.state.consumers ≡ o → BoundsOf (credit_by o credit p)
    by None found = it
    by (Some consumer) found =
        cond_both consumer.cancelled (refuse NoConsumer p) (credit_by_mode consumer.mode consumer credit p) BoundsOf
        (λ _. it) (λ _. in_mode consumer.mode consumer found)

-- the end of a delivery leaves the consumers as they are
die-consumers : (cause : Reason) (row : Row) (p : Progress) → (die cause row p).state.consumers ≡ p.state.consumers
unfolding die
die-consumers cause row p = by p.state.args.strategy
  where
    by : (strategy : Strategy) → (die_by strategy cause row p).state.consumers ≡ p.state.consumers
    by Absent = refl
    by AtMostOnce = refl
    by AtLeastOnce = refl

end-consumers : (outcome : Outcome) (row : Row) (p : Progress)
    → (end_delivery outcome row p).state.consumers ≡ p.state.consumers
unfolding return_row
end-consumers Settled row p = refl
end-consumers Returned row p =
    let more : Row = record row { count = row.count + 1 } in
    cond_both (has_passed p.state.args.delivery_limit more.count) (die reason.DeliveryLimit more p)
    (go_back p.state.args.delivery_limit more p) (λ (q : Progress). q.state.consumers ≡ p.state.consumers)
    (λ _. die-consumers reason.DeliveryLimit more p) (λ _. back p.state.args.delivery_limit more)
  where
    back : (limit : Option ℕ) (more : Row) → (go_back limit more p).state.consumers ≡ p.state.consumers
    back None more = refl
    back (Some limit) more = refl
end-consumers Discarded row p = die-consumers reason.Rejected row p

pub finish-bounds : (outcome : Outcome) (consumer : ConsumerId) (ids : List ℕ) (p : Progress) → Bounds p
    → BoundsOf (finish outcome consumer ids p)
unfolding finish
finish-bounds outcome consumer ids p it = by (consumer_of consumer p.state.consumers)
  where
    rest : Progress
    rest = end_deliveries outcome consumer ids p

    one : (now : Progress) (o : Option Row) → (end_delivery_by outcome o now).state.consumers ≡ now.state.consumers
    one now None = refl
    one now (Some row) = end-consumers outcome row now

    same : rest.state.consumers ≡ p.state.consumers
    same =
        fold-keeps (λ (now : Progress). now.state.consumers ≡ p.state.consumers)
        (λ (now : Progress) (id : ℕ). end_delivery_by outcome (delivered_row consumer id now.state.rows) now)
        (λ now id is. one now (delivered_row consumer id now.state.rows) ∙ is) ids p refl

    by : (o : Option Consumer) → BoundsOf (finish_by o outcome consumer ids p)
    by None = it
    by (Some found) =
        waits-bounds (credit_of consumer p.state.rows p.state.consumers) consumer
        (set_state (drop_finished rest.state) rest) (record {
          few = omega (
            arith,
            filter-few (is_needed rest.state.rows) rest.state.consumers,
            ap (λ (cs : List Consumer). length cs) same,
            it.few,
          );
          busy = busy-needed rest.state.rows rest.state.consumers;
        })

pub purge-bounds : (p : Progress) → Bounds p → BoundsOf (purge p)
unfolding purge
purge-bounds p it = record {
  few = it.few;
  busy = λ one here over.
      let more = out-no_less one.id purge_row p.state.rows
      (λ row there is. cond_both (is_ready row.place) (record row { place = Gone gone.Purged }) row
      (λ (r : Row). is_out_to one.id r.place ≡ true)
      (λ ready. absurd (false≢true (sym (not_out one.id row.place (ready-in row.place ready)) ∙ is))) (λ _. is)) in
      let before = it.busy one here over in
      omega (arith, more, before);
}
