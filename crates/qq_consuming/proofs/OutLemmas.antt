-- Whatever is out with a consumer is fetched.
use Rattle.std.proofs.Common.{◌≡◌, ◌⊎◌, ℕ, zero, suc, ◌+◌, ◌-◌, ◌<◌, ◌≤◌, Bool, true, false, List, [], ◌∷◌, Some, None, refl, sym, ap, ◌∙◌, subst, inl, inr, arith}
use Rattle.std.specs.Prelude.{Contains, find, nat_eq}
use Rattle.std.specs.List.{range_with_len}
use Rattle.std.specs.Option.{option_map}
use Rattle.std.proofs.lemmas.Bool.{and_from, cases_Bool, cases_lt, cond-true, cond-false, eq-eqb, false≢true}
use Rattle.qq_base.proofs.Lists.{In}
use Rattle.qq_base.specs.Ids.{same_consumer}
use Rattle.qq_base.specs.declared.ids.ConsumerId.{ConsumerId}
use Rattle.qq_entry.specs.declared.answer.Delivery.{Delivery}
use Rattle.qq_entry.specs.declared.command.Entry.{Entry}
use Rattle.qq_entry.specs.declared.queue.QueueArgs.{QueueArgs}
use Rattle.qq_model.specs.declared.consumer.Consumer.{Consumer}
use Rattle.qq_model.specs.declared.place.Place.{Place}
use Rattle.qq_model.specs.declared.place.Place.TheVariants.{Out}
use Rattle.qq_model.specs.declared.place.Row.{Row}
use Rattle.qq_model.specs.State.{State, empty_queue}
use Rattle.qq_model.specs.Audit.{state_after}
use Rattle.qq_model.specs.Changes.{consumer_of, delivery_of}
use Rattle.qq_model.specs.Commands.{delivery_id, is_delivery}
use Rattle.qq_model.specs.Gate.{IsNumbered}
use Rattle.qq_model.specs.Sound.{IsSound}
use Rattle.qq_model.proofs.Lookups.{delivered_row-in}
use Rattle.qq_model.proofs.OneConsumer.{same_consumer-refl, same_consumer-true}
use Rattle.qq_model.proofs.Soundness.{Contains-in, in_contains}
use Rattle.qq_laws.specs.Always.{queue_after}
use Rattle.qq_consuming.specs.Fetched.{IsOutWith, given_ids, out_delivery, out_from}
use Rattle.qq_consuming.proofs.FetchedLemmas.{In-filter_map}

-- what the law of queues says
abbrev pub AreSound : Type 0
AreSound = (args : QueueArgs) (entries : List Entry) → IsSound (state_after (empty_queue args) entries)

-- the first one that passes, where one does
record First {A : Type 0} (test : A → Bool) (xs : List A) : Type 0 where
  one : A
  here : In one xs
  is : find test xs ≡ Some one
  passes : test one ≡ true

first-of : {A : Type 0} (test : A → Bool) (xs : List A) (x : A) → In x xs → test x ≡ true → First test xs
first-of test [] x here passes = absurd here
first-of {A} test (y ∷ ys) x here passes = by (cases_Bool (test y)) here (λ later. first-of test ys x later passes)
  where
    by : ((test y ≡ true) ⊎ (test y ≡ false)) → In x (y ∷ ys) → (In x ys → First test ys) → First test (y ∷ ys)
    by (inl own) there more =
        record { one = y; here = inl refl; is = cond-true (test y) (Some y) (find test ys) own; passes = own }
    by (inr other) (inl same) more =
        absurd (false≢true (sym other ∙ ap test (sym same) ∙ passes))
    by (inr other) (inr later) more =
        let rest = more later in
        record {
          one = rest.one;
          here = inr rest.here;
          is = cond-false (test y) (Some y) (find test ys) other ∙ rest.is;
          passes = rest.passes;
        }

in-range : (n from id : ℕ) → from ≤ id → id < from + n → In id (range_with_len from n)
in-range zero from id le lt = absurd (omega (arith, le, lt))
in-range (suc n) from id le lt = elim (cases_lt from id) [
  | inl later ↦ inr (in-range n (from + 1) id (omega (arith, later)) (omega (arith, lt)))
  | inr back ↦ inl (omega (arith, le, back))
]

id-out : (consumer : ConsumerId) (id : ℕ) (place : Place) → place ≡ Out consumer id
    → delivery_id consumer place ≡ Some id
id-out consumer id place at =
    ap (delivery_id consumer) at
    ∙ cond-true (same_consumer consumer consumer) (Some id) None (same_consumer-refl consumer)

is-out : (consumer : ConsumerId) (id : ℕ) (place : Place) → place ≡ Out consumer id
    → is_delivery consumer id place ≡ true
is-out consumer id place at =
    ap (is_delivery consumer id) at
    ∙ and_from (same_consumer consumer consumer) (nat_eq id id) (same_consumer-refl consumer) (eq-eqb id id refl)

pub out-fetched : AreSound → (args : QueueArgs) (entries : List Entry) (consumer : ConsumerId) (delivery : Delivery)
    (from : ℕ) → IsNumbered consumer.session → from ≤ delivery.id → IsOutWith (queue_after args entries) consumer delivery
    → Contains (out_from (queue_after args entries) consumer from) delivery
out-fetched sounds args entries consumer delivery from numbered le is =
    let s : State = queue_after args entries in
    let sound : IsSound s = sounds args entries in
    let id : ℕ = delivery.id in
    let holder = sound.messages.holders is.row consumer id is.is_in is.place in
    let one = first-of (λ (c : Consumer). same_consumer c.id consumer) s.consumers holder.0
    (in_contains s.consumers holder.0 holder.1)
    (ap (λ (c : ConsumerId). same_consumer c consumer) holder.2 ∙ same_consumer-refl consumer) in
    let own : one.one.id ≡ consumer = same_consumer-true one.one.id consumer one.passes in
    let drawn = sound.consumers.deliveries one.one (Contains-in one.one s.consumers one.here)
    (subst (λ (c : ConsumerId). IsNumbered c.session) (sym own) numbered) in
    let named : (row : Row) → row.place ≡ Out consumer id → delivery_id one.one.id row.place ≡ Some id =
    λ row at. ap (λ (c : ConsumerId). delivery_id c row.place) own ∙ id-out consumer id row.place at in
    let within = drawn.drawn is.row id is.is_in (named is.row is.place) in
    let low = within.0 in
    let high = within.1 in
    let found = first-of (λ (row : Row). is_delivery consumer id row.place) s.rows is.row
    (in_contains s.rows is.row is.is_in) (is-out consumer id is.row.place is.place) in
    let there = delivered_row-in consumer id s.rows found.one found.is in
    let same : found.one ≡ is.row =
    drawn.once found.one is.row id (Contains-in found.one s.rows there.0) is.is_in (named found.one there.1)
    (named is.row is.place) in
    let shown : out_delivery s consumer id ≡ Some delivery =
    ap (option_map (delivery_of s id)) found.is ∙ ap (λ (row : Row). Some (delivery_of s id row)) same
    ∙ ap Some (sym is.is) in
    let ids : given_ids from (consumer_of consumer s.consumers)
    ≡ range_with_len from (one.one.next_id - from) = ap (given_ids from) one.is in
    Contains-in delivery (out_from s consumer from)
    (In-filter_map (out_delivery s consumer) (given_ids from (consumer_of consumer s.consumers)) id delivery shown
    (subst (In id) (sym ids) (in-range (one.one.next_id - from) from id le (omega (arith, low, high, le)))))
