-- How often messages were returned (RabbitMQ, "Quorum Queues", "Poison Message Handling").
use Rattle.std.specs.Prelude.{◌≡◌, ℕ, ◌+◌, ◌-◌, ◌++◌, ◌∷◌, ◌⊎◌, [], List, Some, None, Bool, true, false, ◌&&◌, slice_get, Contains, if◌then◌else◌}
use Rattle.std.specs.Option.{option_map_or}
use Rattle.qq_base.specs.declared.ids.ConsumerId.{ConsumerId}
use Rattle.qq_entry.specs.declared.answer.Delivery.{Delivery}
use Rattle.qq_entry.specs.declared.audit.Effect.TheVariants.{Deliver}
use Rattle.qq_entry.specs.Command.{stamp}
use Rattle.qq_entry.specs.declared.command.Command.{Command}
use Rattle.qq_entry.specs.declared.command.Entry.{Entry}
use Rattle.qq_entry.specs.declared.command.Stamp.{Stamp}
use Rattle.qq_entry.specs.declared.message.Reason.TheVariants.{DeliveryLimit}
use Rattle.qq_entry.specs.declared.queue.QueueArgs.{QueueArgs}
use Rattle.qq_model.specs.declared.place.Place.{Place}
use Rattle.qq_model.specs.declared.place.Place.TheVariants.{Out}
use Rattle.qq_model.specs.declared.place.Row.{Row}
use Rattle.qq_model.specs.State.{State, empty_queue}
use Rattle.qq_model.specs.Gate.{IsNumbered}
use Rattle.qq_model.specs.Reasons.{is_enqueue, may_go_back, ends_delivery}
use Rattle.qq_model.specs.Limits.{has_passed}
use Rattle.qq_model.specs.Audit.{next_step}
use Rattle.qq_laws.specs.Explains.{IsDeath, died_of}
use Rattle.qq_laws.specs.Always.{queue_after}

-- whether a command gives back what is at a place: a delivery that it returns, or one of a session that it ends
abbrev pub gives_back : Command → Place → Bool
gives_back command (Out consumer id) = may_go_back command && ends_delivery command consumer id
gives_back command _ = false

-- whether an entry returns a message
abbrev pub is_returned : State → Entry → Row → Bool
is_returned s entry row = (next_step s entry).fresh && gives_back entry.command row.place

-- a place with no consumer, or with one of a client or of a worker that dead-letters at least once
abbrev pub IsWithNumbered : Place → Type 0
IsWithNumbered place = (consumer : ConsumerId) (id : ℕ) → place ≡ Out consumer id → IsNumbered consumer.session

-- an entry raises the count of each message that it returns by one, and of no other; one that it brings was never returned
pub record CountsReturns (s : State) (entry : Entry) : Type 0 where
  pub counted : (k : ℕ) (old new : Row) → slice_get s.rows k ≡ Some old
      → slice_get (next_step s entry).state.rows k ≡ Some new → IsWithNumbered old.place
      → new.count ≡ old.count + (if is_returned s entry old then 1 else 0)
  pub fresh : (k : ℕ) (new : Row) → slice_get s.rows k ≡ None
      → slice_get (next_step s entry).state.rows k ≡ Some new → new.count ≡ 0

-- a message dies of the delivery limit exactly at the return that makes its count greater than the limit, so never without
-- a limit
pub record KeepsDeliveryLimit (s : State) (entry : Entry) : Type 0 where
  pub dies : (row : Row) → Contains s.rows row → IsWithNumbered row.place → is_returned s entry row ≡ true
      → has_passed s.args.delivery_limit (row.count + 1) ≡ true
      → (place : Place) × IsDeath s.args DeliveryLimit place
      × Contains (next_step s entry).state.rows (record row { count = row.count + 1; place = place })
  pub only : (k : ℕ) (new : Row) → slice_get (next_step s entry).state.rows k ≡ Some new
      → died_of new.place ≡ Some DeliveryLimit
      → (slice_get s.rows k ≡ Some new)
      ⊎ ((old : Row) × (slice_get s.rows k ≡ Some old) × (is_returned s entry old ≡ true)
      × (new.count ≡ old.count + 1) × (has_passed s.args.delivery_limit new.count ≡ true))

-- how often entries return the message at a place among all
abbrev pub times_returned : ℕ → State → List Entry → ℕ
times_returned k s [] = 0
times_returned k s (entry ∷ entries) =
    (if option_map_or (is_returned s entry) (slice_get s.rows k) false then 1 else 0)
    + times_returned k (next_step s entry).state entries

-- All but publishes are of clients and of workers that dead-letter at least once: a dead letter that is sent at most once
-- is a publish.
abbrev pub HasNumberedSessions : List Entry → Type 0
HasNumberedSessions entries =
    (entry : Entry) (given : Stamp) → Contains entries entry → stamp entry.command ≡ Some given
    → is_enqueue entry.command ≡ false → IsNumbered given.session

-- over all entries the count of a message is how often it was returned
abbrev pub HasCountedReturns : QueueArgs → List Entry → Type 0
HasCountedReturns args entries =
    (k : ℕ) (row : Row) → HasNumberedSessions entries → slice_get (queue_after args entries).rows k ≡ Some row
    → row.count ≡ times_returned k (empty_queue args) entries

-- and the count that a delivery shows is how often its message was returned so far
abbrev pub ShowsReturns : QueueArgs → List Entry → Entry → Type 0
ShowsReturns args before entry =
    (consumer : ConsumerId) (delivery : Delivery) → HasNumberedSessions (before ++ entry ∷ [])
    → Contains (next_step (queue_after args before) entry).effects (Deliver consumer delivery)
    → delivery.count ≡ times_returned (delivery.arrival - 1) (empty_queue args) (before ++ entry ∷ [])
