-- What else is chosen of the rows and consumers stands among them, and is of its kind.
use Rattle.std.proofs.Common.{◌≡◌, ℕ, Bool, true, false, not, List, Some, sym, ap, ◌∙◌}
use Rattle.std.specs.Prelude.{nat_eq, find}
use Rattle.std.proofs.lemmas.Bool.{false≢true, and_parts, eqb-true}
use Rattle.std.proofs.lemmas.Option.{cond_some, option_and_then_some}
use Rattle.qq_base.specs.declared.ids.ConsumerId.{ConsumerId}
use Rattle.qq_entry.specs.declared.message.Reason.{Reason}
use Rattle.qq_base.specs.Ids.{same_consumer}
use Rattle.qq_model.specs.declared.place.Place.{Place}
use Rattle.qq_model.specs.declared.place.Place.TheVariants.{Out, Dead}
use Rattle.qq_model.specs.declared.place.Row.{Row}
use Rattle.qq_model.specs.declared.consumer.Consumer.{Consumer}
use Rattle.qq_model.specs.Choice.{is_out_to, may_be_served, servable_consumer, active_consumer, next_consumer}
use Rattle.qq_model.specs.Commands.{is_delivery, delivered_row, is_dead_number, dead_row}
use Rattle.qq_model.proofs.Choices.{longest_waiting-in}
use Rattle.qq_base.proofs.Lists.{In, find-in}
use Rattle.qq_model.proofs.OneConsumer.{same_consumer-true}

pub delivery-place : (consumer : ConsumerId) (id : ℕ) (place : Place) → is_delivery consumer id place ≡ true
    → place ≡ Out consumer id
delivery-place consumer id (Out other number) h =
    let parts = and_parts (same_consumer other consumer) (nat_eq number id) h in
    ap (λ (c : ConsumerId). Out c number) (same_consumer-true other consumer parts.0)
    ∙ ap (Out consumer) (eqb-true number id parts.1)
delivery-place consumer id _ h = absurd (false≢true h)

pub out-place : (consumer : ConsumerId) (place : Place) → is_out_to consumer place ≡ true
    → (id : ℕ) × (place ≡ Out consumer id)
out-place consumer (Out other id) h = (id, ap (λ (c : ConsumerId). Out c id) (same_consumer-true other consumer h))
out-place consumer _ h = absurd (false≢true h)

pub delivered_row-in : (consumer : ConsumerId) (id : ℕ) (rows : List Row) (row : Row)
    → delivered_row consumer id rows ≡ Some row → In row rows × (row.place ≡ Out consumer id)
delivered_row-in consumer id rows row found =
    let some = find-in (λ (one : Row). is_delivery consumer id one.place) rows row found in
    (some.0, delivery-place consumer id row.place some.1)

dead-place : (number : ℕ) (place : Place) → is_dead_number number place ≡ true
    → (cause : Reason) × (place ≡ Dead number cause)
dead-place number (Dead other cause) h = (cause, ap (λ (n : ℕ). Dead n cause) (eqb-true other number h))
dead-place number _ h = absurd (false≢true h)

pub dead_row-in : (number : ℕ) (rows : List Row) (row : Row) → dead_row number rows ≡ Some row
    → In row rows × ((cause : Reason) × (row.place ≡ Dead number cause))
dead_row-in number rows row found =
    let some = find-in (λ (one : Row). is_dead_number number one.place) rows row found in
    (some.0, dead-place number row.place some.1)

-- the active consumer is the first that isn't cancelled, and may be served
pub active_consumer-is : (rows : List Row) (consumers : List Consumer) (consumer : Consumer)
    → active_consumer rows consumers ≡ Some consumer
    → (find (λ (one : Consumer). not one.cancelled) consumers ≡ Some consumer) × (may_be_served rows consumer ≡ true)
active_consumer-is rows consumers consumer chosen =
    option_and_then_some (servable_consumer rows) (find (λ (one : Consumer). not one.cancelled) consumers) consumer
    chosen
    (λ one found servable.
    let is = cond_some (may_be_served rows one) one consumer servable in
    (found ∙ ap (λ (c : Consumer). Some c) is.1, ap (may_be_served rows) (sym is.1) ∙ is.0))

pub next_consumer-in : (single : Bool) (rows : List Row) (consumers : List Consumer) (consumer : Consumer)
    → next_consumer single rows consumers ≡ Some consumer
    → In consumer consumers × (may_be_served rows consumer ≡ true)
next_consumer-in true rows consumers consumer next =
    let is = active_consumer-is rows consumers consumer next in
    ((find-in (λ (one : Consumer). not one.cancelled) consumers consumer is.0).0, is.1)
next_consumer-in false rows consumers consumer next = longest_waiting-in rows consumers consumer next
