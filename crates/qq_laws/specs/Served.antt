-- Who is served, and what a delivery shows.
use Rattle.std.specs.Prelude.{◌≡◌, Contains, ◌<◌, ◌++◌, ◌∷◌, [], Some, false}
use Rattle.qq_base.specs.declared.ids.ConsumerId.{ConsumerId}
use Rattle.qq_entry.specs.declared.answer.Delivery.{Delivery}
use Rattle.qq_entry.specs.declared.audit.Effect.TheVariants.{Deliver}
use Rattle.qq_entry.specs.declared.command.Entry.{Entry}
use Rattle.qq_model.specs.declared.place.Place.TheVariants.{Out}
use Rattle.qq_model.specs.declared.place.Row.{Row}
use Rattle.qq_model.specs.State.{State}
use Rattle.qq_model.specs.Audit.{next_step}
use Rattle.qq_model.specs.declared.consumer.Consumer.{Consumer}
use Rattle.qq_model.specs.Choice.{free_credit}
use Rattle.qq_model.specs.Changes.{Progress}
use Rattle.qq_model.specs.Serving.{check_out}

-- a message that is with a consumer as a delivery shows it: under its id, and returned as often as it says
pub record IsOutAs (consumer : ConsumerId) (delivery : Delivery) (row : Row) : Type 0 where
  pub place : row.place ≡ Out consumer delivery.id
  pub index : row.index ≡ delivery.index
  pub arrival : row.arrival ≡ delivery.arrival
  pub count : row.count ≡ delivery.count

-- each message that an entry delivers is with that consumer after the entry, as the delivery shows it
abbrev pub LeavesOut : State → Entry → Type 0
LeavesOut s entry =
    let made = next_step s entry in
    (consumer : ConsumerId) (delivery : Delivery) → Contains made.effects (Deliver consumer delivery)
    → (row : Row) × Contains made.state.rows row × IsOutAs consumer delivery row

-- Each delivery goes to a consumer that has joined, isn't cancelled, and may have more: under its next id, in a step under
-- way, of which these are the deliveries.
abbrev pub ServesWhoWaits : Progress → Progress → Type 0
ServesWhoWaits p next =
    check_out p ≡ Some next
    → (consumer : Consumer) × (delivery : Delivery) × Contains p.state.consumers consumer
    × (consumer.cancelled ≡ false) × (0 < free_credit p.state.rows consumer) × (delivery.id ≡ consumer.next_id)
    × (next.effects ≡ p.effects ++ Deliver consumer.id delivery ∷ [])
