-- The active consumer of a queue with a single one doesn't wait in vain (RabbitMQ, "Single Active Consumer").
use Rattle.std.specs.Prelude.{◌≡◌, true, false, not, Some, find, Contains}
use Rattle.qq_model.specs.declared.place.Row.{Row}
use Rattle.qq_model.specs.declared.consumer.Consumer.{Consumer}
use Rattle.qq_model.specs.State.{State}
use Rattle.qq_model.specs.Choice.{may_be_served}
use Rattle.qq_model.specs.Limits.{is_ready}

-- with a single active consumer: where a message is ready, the longest joined consumer that isn't cancelled may not be
-- served
abbrev pub ActiveDoesNotWait : State → Type 0
ActiveDoesNotWait s =
    s.args.single_active ≡ true → (row : Row) (consumer : Consumer) → Contains s.rows row → is_ready row.place ≡ true
    → find (λ (one : Consumer). not one.cancelled) s.consumers ≡ Some consumer
    → may_be_served s.rows consumer ≡ false
