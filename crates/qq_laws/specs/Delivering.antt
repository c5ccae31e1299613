-- What one delivery does (RabbitMQ, "Consumers", "Message Ordering").
use Rattle.std.specs.Prelude.{◌≡◌, ◌+◌, ◌++◌, [], ◌∷◌, Some, true, false, not, find, Contains}
use Rattle.qq_entry.specs.declared.audit.Effect.TheVariants.{Deliver}
use Rattle.qq_model.specs.declared.place.Place.TheVariants.{Out}
use Rattle.qq_model.specs.declared.place.Row.{Row}
use Rattle.qq_model.specs.declared.consumer.Consumer.{Consumer}
use Rattle.qq_model.specs.Changes.{Progress, delivery_of}
use Rattle.qq_model.specs.Serving.{check_out}
use Rattle.qq_laws.specs.Turns.{HasWaitedLongest, IsFirstMessage}

-- A message is delivered to a consumer: the first message of all, to the consumer that has waited the longest of those
-- that may be served, or to the single active one. The message is with it then, and it waits behind all others.
pub record Delivers (p next : Progress) : Type 0 where
  pub row : Row
  pub consumer : Consumer
  pub there : Contains p.state.rows row
  pub first : IsFirstMessage p.state.rows row
  pub longest : p.state.args.single_active ≡ false → HasWaitedLongest p.state.rows p.state.consumers consumer
  pub active : p.state.args.single_active ≡ true
      → find (λ (one : Consumer). not one.cancelled) p.state.consumers ≡ Some consumer
  pub shows : next.effects ≡ p.effects ++ Deliver consumer.id (delivery_of p.state consumer.next_id row) ∷ []
  pub out : Contains next.state.rows (record row { place = Out consumer.id consumer.next_id })
  pub turns : next.state.turns ≡ p.state.turns + 1
  pub behind : (one : Consumer) → Contains next.state.consumers one → one.id ≡ consumer.id
      → one.turn ≡ next.state.turns
  pub others : (one : Consumer) → Contains next.state.consumers one → (one.id ≡ consumer.id → ⊥)
      → Contains p.state.consumers one

-- in a step under way, of which these are the deliveries
abbrev pub DeliversInTurn : Progress → Progress → Type 0
DeliversInTurn p next = check_out p ≡ Some next → Delivers p next
