-- The ids of deliveries.
use Rattle.std.specs.Prelude.{◌≡◌, ℕ, ◌+◌, List, Some, slice_get}
use Rattle.qq_entry.specs.declared.answer.Delivery.{Delivery}
use Rattle.qq_base.specs.declared.ids.ConsumerId.{ConsumerId}
use Rattle.qq_entry.specs.declared.queue.QueueArgs.{QueueArgs}
use Rattle.qq_entry.specs.declared.command.Entry.{Entry}
use Rattle.qq_model.specs.State.{empty_queue}
use Rattle.qq_model.specs.Audit.{deliveries}
use Rattle.qq_laws.specs.Always.{queue_audit}
use Rattle.qq_model.specs.Gate.{IsNumbered}

-- ids that count by one, from 1
abbrev pub CountByOne : List Delivery → Type 0
CountByOne deliveries = (k : ℕ) (delivery : Delivery) → slice_get deliveries k ≡ Some delivery → delivery.id ≡ k + 1

-- the deliveries to a consumer of a numbered session, over all entries, have the ids 1, 2, 3 and so on
abbrev pub CountsDeliveries : QueueArgs → List Entry → Type 0
CountsDeliveries args entries =
    (consumer : ConsumerId) → IsNumbered consumer.session
    → CountByOne (deliveries (empty_queue args) (queue_audit args entries) consumer)
