-- What serving leaves of a consumer.
use Rattle.std.proofs.Common.{◌≡◌, ℕ, ◌+◌, refl}
use Rattle.qq_entry.specs.declared.command.Mode.{Mode}
use Rattle.qq_entry.specs.declared.command.Mode.TheVariants.{Prefetch, Link}
use Rattle.qq_model.specs.declared.consumer.Consumer.{Consumer}
use Rattle.qq_model.specs.Serving.{use_credit, serve}

use_credit-id : (mode : Mode) (consumer : Consumer) → (use_credit mode consumer).id ≡ consumer.id
use_credit-id (Prefetch prefetch) consumer = refl
use_credit-id Link consumer = refl

use_credit-cancelled : (mode : Mode) (consumer : Consumer) → (use_credit mode consumer).cancelled ≡ consumer.cancelled
use_credit-cancelled (Prefetch prefetch) consumer = refl
use_credit-cancelled Link consumer = refl

pub serve-id : (turn : ℕ) (consumer : Consumer) → (serve turn consumer).id ≡ consumer.id
serve-id turn consumer = use_credit-id consumer.mode (record consumer { next_id = consumer.next_id + 1; turn = turn })

pub serve-cancelled : (turn : ℕ) (consumer : Consumer) → (serve turn consumer).cancelled ≡ consumer.cancelled
serve-cancelled turn consumer =
    use_credit-cancelled consumer.mode (record consumer { next_id = consumer.next_id + 1; turn = turn })

use_credit-next : (mode : Mode) (consumer : Consumer) → (use_credit mode consumer).next_id ≡ consumer.next_id
use_credit-next (Prefetch prefetch) consumer = refl
use_credit-next Link consumer = refl

pub serve-next : (turn : ℕ) (consumer : Consumer) → (serve turn consumer).next_id ≡ consumer.next_id + 1
serve-next turn consumer =
    use_credit-next consumer.mode (record consumer { next_id = consumer.next_id + 1; turn = turn })
