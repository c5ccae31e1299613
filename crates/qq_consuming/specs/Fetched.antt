-- What a client that was cut off is shown of what is out with its consumer.
use Rattle.std.specs.Prelude.{◌≡◌, ℕ, ◌-◌, List, [], Option, Some, None, Contains, filter_map}
use Rattle.std.specs.List.{range_with_len}
use Rattle.std.specs.Option.{option_map}
use Rattle.qq_base.specs.declared.ids.ConsumerId.{ConsumerId}
use Rattle.qq_entry.specs.declared.answer.Delivery.{Delivery}
use Rattle.qq_model.specs.declared.consumer.Consumer.{Consumer}
use Rattle.qq_model.specs.declared.place.Place.TheVariants.{Out}
use Rattle.qq_model.specs.declared.place.Row.{Row}
use Rattle.qq_model.specs.State.{State}
use Rattle.qq_model.specs.Changes.{consumer_of, delivery_of}
use Rattle.qq_model.specs.Commands.{delivered_row}

-- a delivery shows a message that is out with the consumer, under the id under which it is out
pub record IsOutWith (s : State) (consumer : ConsumerId) (delivery : Delivery) : Type 0 where
  pub row : Row
  pub is_in : Contains s.rows row
  pub place : row.place ≡ Out consumer delivery.id
  pub is : delivery ≡ delivery_of s delivery.id row

-- the delivery of an id, if it is out with the consumer
abbrev pub out_delivery : State → ConsumerId → ℕ → Option Delivery
out_delivery s consumer id = option_map (delivery_of s id) (delivered_row consumer id s.rows)

-- the ids that a consumer was given, from one on
abbrev pub given_ids : ℕ → Option Consumer → List ℕ
given_ids from None = []
given_ids from (Some consumer) = range_with_len from (consumer.next_id - from)

-- what is out with a consumer, from an id on, in the order of ids
abbrev pub out_from : State → ConsumerId → ℕ → List Delivery
out_from s consumer from =
    filter_map (out_delivery s consumer) (given_ids from (consumer_of consumer s.consumers))
