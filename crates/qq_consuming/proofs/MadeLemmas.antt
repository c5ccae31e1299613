-- A consumer's deliveries are effects of its queue's entries, and what is fetched of it is out with it.
use Rattle.std.proofs.Common.{◌≡◌, ℕ, Bool, true, false, cond, List, [], ◌∷◌, Option, Some, None, refl, sym, ap, ◌∙◌, subst, inl, inr}
use Rattle.std.specs.Prelude.{Contains, filter_map}
use Rattle.std.specs.List.{AllByRecursion, cons_option}
use Rattle.std.specs.Option.{option_map}
use Rattle.std.proofs.lemmas.Bool.{cond-true}
use Rattle.qq_base.proofs.Lists.{In}
use Rattle.qq_base.specs.Ids.{same_consumer}
use Rattle.qq_base.specs.declared.ids.ConsumerId.{ConsumerId}
use Rattle.qq_entry.specs.declared.answer.Delivery.{Delivery}
use Rattle.qq_entry.specs.declared.audit.Effect.{Effect}
use Rattle.qq_entry.specs.declared.audit.Effect.TheVariants.{Deliver, DeadOnce, Offer}
use Rattle.qq_entry.specs.declared.command.Entry.{Entry}
use Rattle.qq_entry.specs.declared.queue.QueueArgs.{QueueArgs}
use Rattle.qq_model.specs.declared.place.Row.{Row}
use Rattle.qq_model.specs.State.{State, empty_queue}
use Rattle.qq_model.specs.Audit.{deliveries, delivery_to, effects_of}
use Rattle.qq_model.specs.Changes.{consumer_of, delivery_of}
use Rattle.qq_model.specs.Commands.{delivered_row}
use Rattle.qq_model.proofs.Lookups.{delivered_row-in}
use Rattle.qq_model.proofs.OneConsumer.{same_consumer-refl, same_consumer-true}
use Rattle.qq_model.proofs.Soundness.{Contains-in, in_contains}
use Rattle.qq_laws.specs.Always.{queue_audit}
use Rattle.qq_consuming.specs.Fetched.{IsOutWith, given_ids, out_delivery, out_from}
use Rattle.qq_consuming.proofs.FetchedLemmas.{In-filter_map, entries-audit}

-- the effects of entries, and the deliveries of their audit
abbrev made : QueueArgs → List Entry → List Effect
made args entries = effects_of (empty_queue args) entries

in-filtered : {A B : Type 0} (f : A → Option B) (xs : List A) (y : B) → In y (filter_map f xs)
    → (x : A) × In x xs × (f x ≡ Some y)
in-filtered f [] y here = absurd here
in-filtered {A} {B} f (first ∷ xs) y here = by (f first) refl (λ there. in-filtered f xs y there) here
  where
    by : (o : Option B) → f first ≡ o → (In y (filter_map f xs) → (x : A) × In x xs × (f x ≡ Some y))
        → In y (cons_option o (filter_map f xs)) → (x : A) × In x (first ∷ xs) × (f x ≡ Some y)
    by None is rest there = let later = rest there in (later.0, inr later.1, later.2)
    by (Some z) is rest (inl same) = (first, inl refl, is ∙ ap Some (sym same))
    by (Some z) is rest (inr there) = let later = rest there in (later.0, inr later.1, later.2)

pub made-delivery : (args : QueueArgs) (entries : List Entry) (consumer : ConsumerId) (d : Delivery)
    → Contains (effects_of (empty_queue args) entries) (Deliver consumer d)
    → Contains (deliveries (empty_queue args) (queue_audit args entries) consumer) d
made-delivery args entries consumer d there =
    Contains-in d (deliveries (empty_queue args) (queue_audit args entries) consumer)
    (subst (λ (es : List Entry). In d (filter_map (delivery_to consumer) (made args es)))
    (sym (entries-audit (empty_queue args) entries))
    (In-filter_map (delivery_to consumer) (made args entries) (Deliver consumer d) d
    (cond-true (same_consumer consumer consumer) (Some d) None (same_consumer-refl consumer))
    (in_contains (made args entries) (Deliver consumer d) there)))

-- an effect that is a delivery to a consumer
effect-is : (consumer : ConsumerId) (d : Delivery) (effect : Effect) → delivery_to consumer effect ≡ Some d
    → effect ≡ Deliver consumer d
effect-is consumer d (Deliver other given) is = by (same_consumer other consumer) refl is
  where
    by : (b : Bool) → same_consumer other consumer ≡ b → cond b (Some given) None ≡ Some d
        → Deliver other given ≡ Deliver consumer d
    by true same e =
        let deliveries' : given ≡ d = cc in
        ap (λ (c : ConsumerId). Deliver c given) (same_consumer-true other consumer same)
        ∙ ap (Deliver consumer) deliveries'
    by false apart e = absurd cc
effect-is consumer d (DeadOnce reason message) is = absurd cc
effect-is consumer d (Offer number reason message) is = absurd cc

pub delivery-made : (args : QueueArgs) (entries : List Entry) (consumer : ConsumerId) (d : Delivery)
    → Contains (deliveries (empty_queue args) (queue_audit args entries) consumer) d
    → Contains (effects_of (empty_queue args) entries) (Deliver consumer d)
delivery-made args entries consumer d there =
    let found' : In d (filter_map (delivery_to consumer) (made args entries)) =
    subst (λ (es : List Entry). In d (filter_map (delivery_to consumer) (made args es)))
    (entries-audit (empty_queue args) entries)
    (in_contains (deliveries (empty_queue args) (queue_audit args entries) consumer) d there) in
    let some = in-filtered (delivery_to consumer) (made args entries) d found' in
    Contains-in (Deliver consumer d) (made args entries)
    (subst (λ (e : Effect). In e (made args entries)) (effect-is consumer d some.0 some.2) some.1)

-- ---- what is fetched

out-is : (s : State) (consumer : ConsumerId) (id : ℕ) (d : Delivery) → out_delivery s consumer id ≡ Some d
    → IsOutWith s consumer d
out-is s consumer id d is = by (delivered_row consumer id s.rows) refl is
  where
    by : (o : Option Row) → delivered_row consumer id s.rows ≡ o → option_map (delivery_of s id) o ≡ Some d
        → IsOutWith s consumer d
    by None found e = absurd cc
    by (Some row) found e =
        let some = delivered_row-in consumer id s.rows row found in
        let same : delivery_of s id row ≡ d = cc in
        subst (IsOutWith s consumer) same
        (record { row = row; is_in = Contains-in row s.rows some.0; place = some.1; is = refl })

all-out : (s : State) (consumer : ConsumerId) (ids : List ℕ)
    → AllByRecursion (IsOutWith s consumer) (filter_map (out_delivery s consumer) ids)
all-out s consumer [] = tt
all-out s consumer (id ∷ ids) = by (out_delivery s consumer id) refl (all-out s consumer ids)
  where
    by : (o : Option Delivery) → out_delivery s consumer id ≡ o
        → AllByRecursion (IsOutWith s consumer) (filter_map (out_delivery s consumer) ids)
        → AllByRecursion (IsOutWith s consumer) (cons_option o (filter_map (out_delivery s consumer) ids))
    by None is rest = rest
    by (Some d) is rest = (out-is s consumer id d is, rest)

pub fetched-out : (s : State) (consumer : ConsumerId) (from : ℕ)
    → AllByRecursion (IsOutWith s consumer) (out_from s consumer from)
fetched-out s consumer from = all-out s consumer (given_ids from (consumer_of consumer s.consumers))
