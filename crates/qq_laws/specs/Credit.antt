-- The free credit of consumers (RabbitMQ, "Consumer Prefetch").
use Rattle.std.specs.Prelude.{◌≡◌, ℕ, ◌+◌, Contains}
use Rattle.qq_entry.specs.declared.command.Mode.TheVariants.{Prefetch}
use Rattle.qq_model.specs.declared.consumer.Consumer.{Consumer}
use Rattle.qq_model.specs.State.{State}
use Rattle.qq_model.specs.Choice.{free_credit, out_count, prefetch_limit}
use Rattle.qq_model.specs.Gate.{IsNumbered}

-- what a consumer may still get, and what it hasn't settled, are its prefetch together
abbrev pub FillsPrefetch : State → Type 0
FillsPrefetch s =
    (consumer : Consumer) (prefetch : ℕ) → Contains s.consumers consumer → IsNumbered consumer.id.session
    → consumer.mode ≡ Prefetch prefetch
    → free_credit s.rows consumer + out_count consumer.id s.rows ≡ prefetch_limit prefetch
