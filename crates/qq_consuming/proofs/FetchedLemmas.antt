-- What is out was delivered, as it is now.
use Rattle.std.proofs.Common.{◌≡◌, ℕ, zero, suc, ◌-◌, List, [], ◌∷◌, ◌++◌, Option, Some, None, refl, sym, ap, ◌∙◌, subst, inl, inr, append_assoc, append-nil}
use Rattle.std.specs.Prelude.{Contains, filter_map, slice_get, unwrap_or}
use Rattle.std.specs.List.{cons_option}
use Rattle.std.proofs.lemmas.Bool.{cond-true}
use Rattle.std.proofs.lemmas.List.Elements.{filter_map-append}
use Rattle.qq_base.proofs.Lists.{In, In-append_left, In-append_right, AllByRecursion-in}
use Rattle.qq_base.specs.declared.ids.ConsumerId.{ConsumerId}
use Rattle.qq_base.specs.declared.ids.Index.{Index}
use Rattle.qq_base.specs.Ids.{same_consumer}
use Rattle.qq_entry.specs.declared.answer.Delivery.{Delivery}
use Rattle.qq_entry.specs.declared.audit.Effect.{Effect}
use Rattle.qq_entry.specs.declared.audit.Effect.TheVariants.{Deliver}
use Rattle.qq_entry.specs.declared.command.Command.TheVariants.{Noop}
use Rattle.qq_entry.specs.declared.command.Entry.{Entry}
use Rattle.qq_entry.specs.declared.message.Message.{Message}
use Rattle.qq_entry.specs.declared.queue.QueueArgs.{QueueArgs}
use Rattle.qq_model.specs.declared.place.Place.TheVariants.{Out}
use Rattle.qq_model.specs.declared.place.Row.{Row}
use Rattle.qq_model.specs.State.{State, empty_queue}
use Rattle.qq_model.specs.Changes.{Progress, delivery_of, message_of}
use Rattle.qq_model.specs.Audit.{audit_of, deliveries, delivery_to, effects_of, entries_of, next_index, next_step, state_after}
use Rattle.qq_model.proofs.OneConsumer.{same_consumer-refl}
use Rattle.qq_model.proofs.Soundness.{Contains-in, in_contains}
use Rattle.qq_laws.specs.Always.{queue_after, queue_audit}
use Rattle.qq_laws.specs.Ended.{IsOutByDelivery}
use Rattle.qq_laws.specs.Published.{Publish, EffectShows, Shows, new_message}
use Rattle.qq_laws.specs.Served.{IsOutAs}
use Rattle.qq_laws.proofs.Since.{Since-start, publishes_of, row_shows}
use Rattle.qq_laws.proofs.Steps.{Sound, new_publishes, next_stepped}
use Rattle.qq_laws.proofs.Runs.{empty-sound}
use Rattle.qq_consuming.specs.Fetched.{IsOutWith}

-- the law of the queue on which this stands
abbrev pub IsOutByDeliveries : Type 0
IsOutByDeliveries = (s : State) (entry : Entry) → IsOutByDelivery s entry

pub In-filter_map : {A B : Type 0} (f : A → Option B) (xs : List A) (x : A) (y : B) → f x ≡ Some y → In x xs
    → In y (filter_map f xs)
In-filter_map f [] x y gives here = absurd here
In-filter_map {A} {B} f (first ∷ xs) x y gives (inl is) =
    subst (λ (o : Option B). In y (cons_option o (filter_map f xs))) (sym (ap f (sym is) ∙ gives)) (inl refl)
In-filter_map {A} {B} f (first ∷ xs) x y gives (inr later) = by (f first) (In-filter_map f xs x y gives later)
  where
    by : (o : Option B) → In y (filter_map f xs) → In y (cons_option o (filter_map f xs))
    by None there = there
    by (Some z) there = inr there

-- a list that grows keeps what is found in it
get-more : {A : Type 0} (xs ys : List A) (k : ℕ) (x : A) → slice_get xs k ≡ Some x → slice_get (xs ++ ys) k ≡ Some x
get-more [] ys k x found = absurd cc
get-more (first ∷ xs) ys zero x found = found
get-more (first ∷ xs) ys (suc k) x found = get-more xs ys k x found

-- a row shows the publish of its arrival
row-shows : (s : State) (row : Row) (id : ℕ) → Sound s → In row s.rows → Shows (publishes_of s) (delivery_of s id row)
row-shows s row id sound here =
    let p : Progress = record { state = s; effects = [] } in
    row_shows s (Noop 0) p row id sound.orderly (Since-start s (Noop 0) p refl refl refl refl refl) here

message-at : Publish → Option Publish → Message
message-at default o = (unwrap_or o default).message

-- what is shown of one arrival by publishes that only grow is the same message
same-message : (first more : List Publish) (place : ℕ) (a b : Publish) → slice_get first place ≡ Some a
    → slice_get (first ++ more) place ≡ Some b → a.message ≡ b.message
unfolding message-at
same-message first more place a b found later =
    ap (message-at a) (sym (get-more first more place a found) ∙ later)

-- what is out with a consumer is among these, as it is now
abbrev Known : ConsumerId → State → List Delivery → Type 0
Known consumer s known =
    (row : Row) (id : ℕ) → In row s.rows → row.place ≡ Out consumer id → In (delivery_of s id row) known

with_message : (index : Index) (arrival id count : ℕ) → Message → Delivery
with_message index arrival id count message =
    record { index = index; arrival = arrival; id = id; count = count; message = message }

-- the same row shows the same before an entry and after it
stays : (s : State) (entry : Entry) (row : Row) (id : ℕ) → Sound s → In row s.rows
    → In row (next_step s entry).state.rows → delivery_of s id row ≡ delivery_of (next_step s entry).state id row
unfolding with_message
stays s entry row id sound before after =
    let made = next_step s entry in
    let stepped = next_stepped s entry sound in
    let more : List Publish =
    new_publishes (next_index s) (new_message made.fresh made.answer entry.command) in
    let old = row-shows s row id sound before in
    let new = row-shows made.state row id stepped.sound after in
    ap (with_message row.index row.arrival id row.count)
    (same-message (publishes_of s) more (row.arrival - 1)
    (record { index = row.index; message = message_of s.rows s.messages row })
    (record { index = row.index; message = message_of made.state.rows made.state.messages row })
    old.published (ap (λ (all : List Publish). slice_get all (row.arrival - 1)) (sym stepped.kept) ∙ new.published))

-- a delivery shows what it leaves out
shown : (s : State) (row : Row) (id : ℕ) (consumer : ConsumerId) (delivery : Delivery) → Sound s → In row s.rows
    → row.place ≡ Out consumer id → IsOutAs consumer delivery row → Shows (publishes_of s) delivery
    → delivery ≡ delivery_of s id row
unfolding with_message message-at
shown s row id consumer delivery sound here at is shows =
    let m : Message = message_of s.rows s.messages row in
    let same : Out consumer delivery.id ≡ Out consumer id = sym is.place ∙ at in
    let ids : delivery.id ≡ id = cc in
    let rows = row-shows s row id sound here in
    let there : slice_get (publishes_of s) (delivery.arrival - 1)
    ≡ Some (record { index = row.index; message = m }) =
    ap (λ (n : ℕ). slice_get (publishes_of s) (n - 1)) (sym is.arrival) ∙ rows.published in
    let messages : delivery.message ≡ m =
    ap (message-at (record { index = row.index; message = m })) (sym shows.published ∙ there) in
    ap (λ (x : Index). with_message x delivery.arrival delivery.id delivery.count delivery.message) (sym is.index)
    ∙ ap (λ (x : ℕ). with_message row.index x delivery.id delivery.count delivery.message) (sym is.arrival)
    ∙ ap (λ (x : ℕ). with_message row.index row.arrival x delivery.count delivery.message) ids
    ∙ ap (λ (x : ℕ). with_message row.index row.arrival id x delivery.message) (sym is.count)
    ∙ ap (with_message row.index row.arrival id row.count) messages

-- the deliveries of effects
abbrev to : ConsumerId → List Effect → List Delivery
to consumer effects = filter_map (delivery_to consumer) effects

known-step : IsOutByDeliveries → (consumer : ConsumerId) (s : State) (entry : Entry) (known : List Delivery) → Sound s
    → Known consumer s known
    → Known consumer (next_step s entry).state (known ++ to consumer (next_step s entry).effects)
known-step out consumer s entry known sound is row id here at =
    let made = next_step s entry in
    let stepped = next_stepped s entry sound in
    elim (out s entry row consumer id (Contains-in row made.state.rows here) at) [
      | inl before ↦
          let old : In row s.rows = in_contains s.rows row before in
          In-append_left (delivery_of made.state id row) known (to consumer made.effects)
          (subst (λ (d : Delivery). In d known) (stays s entry row id sound old here) (is row id old at))
      | inr some ↦
          let there : In (Deliver consumer some.0) made.effects =
          in_contains made.effects (Deliver consumer some.0) some.1 in
          let shows : Shows (publishes_of made.state) some.0 =
          AllByRecursion-in (EffectShows (publishes_of made.state)) (Deliver consumer some.0) made.effects
          stepped.shown there in
          In-append_right (delivery_of made.state id row) known (to consumer made.effects)
          (subst (λ (d : Delivery). In d (to consumer made.effects))
          (shown made.state row id consumer some.0 stepped.sound here at some.2 shows)
          (In-filter_map (delivery_to consumer) made.effects (Deliver consumer some.0) some.0
          (cond-true (same_consumer consumer consumer) (Some some.0) None (same_consumer-refl consumer)) there))
    ]

known-run : IsOutByDeliveries → (consumer : ConsumerId) (s : State) (entries : List Entry) (known : List Delivery)
    → Sound s → Known consumer s known
    → Known consumer (state_after s entries) (known ++ to consumer (effects_of s entries))
known-run out consumer s [] known sound is =
    subst (λ (ds : List Delivery). Known consumer s ds) (sym (append-nil known)) is
known-run out consumer s (entry ∷ entries) known sound is =
    let made = next_step s entry in
    let later : List Effect = effects_of made.state entries in
    subst (λ (ds : List Delivery). Known consumer (state_after made.state entries) ds)
    (append_assoc known (to consumer made.effects) (to consumer later)
    ∙ ap (λ (ds : List Delivery). known ++ ds) (sym (filter_map-append (delivery_to consumer) made.effects later)))
    (known-run out consumer made.state entries (known ++ to consumer made.effects) (next_stepped s entry sound).sound
    (known-step out consumer s entry known sound is))

pub entries-audit : (s : State) (entries : List Entry) → entries_of (audit_of s entries) ≡ entries
entries-audit s [] = refl
entries-audit s (entry ∷ entries) =
    ap (λ (es : List Entry). entry ∷ es) (entries-audit (next_step s entry).state entries)

pub out-delivered : IsOutByDeliveries → (args : QueueArgs) (entries : List Entry) (consumer : ConsumerId)
    (delivery : Delivery) → IsOutWith (queue_after args entries) consumer delivery
    → Contains (deliveries (empty_queue args) (queue_audit args entries) consumer) delivery
out-delivered out args entries consumer delivery is =
    let s : State = queue_after args entries in
    let known =
    known-run out consumer (empty_queue args) entries [] (empty-sound args) (λ row id here at. absurd here) in
    let there : In delivery (to consumer (effects_of (empty_queue args) entries)) =
    subst (λ (d : Delivery). In d (to consumer (effects_of (empty_queue args) entries))) (sym is.is)
    (known is.row delivery.id (in_contains s.rows is.row is.is_in) is.place) in
    Contains-in delivery (deliveries (empty_queue args) (queue_audit args entries) consumer)
    (subst (λ (es : List Entry). In delivery (to consumer (effects_of (empty_queue args) es)))
    (sym (entries-audit (empty_queue args) entries)) there)
