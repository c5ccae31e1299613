-- What each of the four choices gives stands among the rows or consumers, and is of its kind.
use Rattle.std.proofs.Common.{◌≡◌, ℕ, Bool, true, false, List, Some, None, nat_lt, refl, sym, ◌∙◌, if◌then◌else◌}
use Rattle.std.specs.Option.{is_some}
use Rattle.qq_base.specs.declared.ids.ConsumerId.{ConsumerId}
use Rattle.qq_base.specs.Ids.{same_consumer}
use Rattle.qq_model.specs.declared.place.Place.{Place}
use Rattle.qq_model.specs.declared.place.Place.TheVariants.{Ready, Out}
use Rattle.qq_model.specs.declared.place.Row.{Row}
use Rattle.qq_model.specs.declared.consumer.Consumer.{Consumer}
use Rattle.qq_model.specs.Choice.{key_less, place_key, ready_key, next_message, is_out_to, may_be_served, waiting_turn, longest_waiting}
use Rattle.qq_model.specs.Limits.{is_ready}
use Rattle.qq_model.specs.Commands.{delivery_id, first_delivery}
use Rattle.qq_model.specs.Serving.{dead_number, next_dead}
use Rattle.qq_base.proofs.Lists.{In}
use Rattle.qq_model.proofs.Least.{least_by-in}

-- an option that a test fills
pub is_some-if : {A : Type 0} (test : Bool) (a : A) → is_some (if test then Some a else None) ≡ test
is_some-if true a = refl
is_some-if false a = refl

pub place_key-ready : (place : Place) → is_some (place_key place) ≡ is_ready place
place_key-ready (Ready key) = refl
place_key-ready _ = refl

pub next_message-in : (rows : List Row) (row : Row)
    → next_message rows ≡ Some row → In row rows × (is_ready row.place ≡ true)
next_message-in rows row e =
    let found = least_by-in key_less ready_key rows row e in
    (found.0, sym (place_key-ready row.place) ∙ found.1)

pub delivery_id-out : (consumer : ConsumerId) (place : Place)
    → is_some (delivery_id consumer place) ≡ is_out_to consumer place
delivery_id-out consumer (Out other id) = is_some-if (same_consumer other consumer) id
delivery_id-out consumer _ = refl

pub first_delivery-in : (consumer : ConsumerId) (rows : List Row) (row : Row)
    → first_delivery consumer rows ≡ Some row → In row rows × (is_out_to consumer row.place ≡ true)
first_delivery-in consumer rows row e =
    let found = least_by-in nat_lt (λ (one : Row). delivery_id consumer one.place) rows row e in
    (found.0, sym (delivery_id-out consumer row.place) ∙ found.1)

pub next_dead-in : (given : ℕ) (rows : List Row) (row : Row)
    → next_dead given rows ≡ Some row → In row rows × (is_some (dead_number given row.place) ≡ true)
next_dead-in given rows row e = least_by-in nat_lt (λ (one : Row). dead_number given one.place) rows row e

pub longest_waiting-in : (rows : List Row) (consumers : List Consumer) (consumer : Consumer)
    → longest_waiting rows consumers ≡ Some consumer → In consumer consumers × (may_be_served rows consumer ≡ true)
longest_waiting-in rows consumers consumer e =
    let found = least_by-in nat_lt (waiting_turn rows) consumers consumer e in
    (found.0, sym (is_some-if (may_be_served rows consumer) consumer.turn) ∙ found.1)
