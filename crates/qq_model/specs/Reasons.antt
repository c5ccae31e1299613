-- Which commands move a message where, in the words of RabbitMQ.
use Rattle.std.specs.Prelude.{ℕ, ◌≡◌, ◌≤◌, ◌⊎◌, Bool, true, false, not, nat_eq, ◌&&◌, ◌||◌}
use Rattle.std.specs.List.{list_any}
use Rattle.qq_base.specs.declared.ids.ConsumerId.{ConsumerId}
use Rattle.qq_base.specs.Ids.{same_session, same_consumer}
use Rattle.qq_entry.specs.declared.queue.QueueArgs.{QueueArgs}
use Rattle.qq_entry.specs.declared.message.Reason.{Reason}
use Rattle.qq_entry.specs.declared.message.Reason.TheVariants.{Rejected, Expired, MaxLen, DeliveryLimit}
use Rattle.qq_entry.specs.declared.command.Command.{Command}
use Rattle.qq_entry.specs.declared.command.Command.TheVariants.{Enqueue, Get, Settle, Return, Discard, Purge, Down, DeadSettle}
use Rattle.qq_entry.specs.declared.command.DeadDone.{DeadDone}
use Rattle.qq_entry.specs.Command.{consumer_id}
use Rattle.qq_model.specs.declared.place.GoneReason.{GoneReason}
use Rattle.qq_model.specs.declared.place.GoneReason.TheVariants as gone
use Rattle.qq_model.specs.declared.place.Place.{Place}
use Rattle.qq_model.specs.declared.place.Place.TheVariants.{Dead, Gone}
use Rattle.qq_model.specs.declared.place.Row.{Row}
use Rattle.qq_model.specs.Limits.{is_live, is_dead, is_drop_head}
use Rattle.qq_model.specs.Commands.{is_at_least_once}

abbrev pub is_enqueue : Command → Bool
is_enqueue (Enqueue stamp origin message) = true
is_enqueue _ = false

abbrev pub is_get : Command → Bool
is_get (Get stamp) = true
is_get _ = false

abbrev pub is_settle : Command → Bool
is_settle (Settle stamp tag ids) = true
is_settle _ = false

abbrev pub is_return : Command → Bool
is_return (Return stamp tag ids) = true
is_return _ = false

abbrev pub is_discard : Command → Bool
is_discard (Discard stamp tag ids) = true
is_discard _ = false

abbrev pub is_purge : Command → Bool
is_purge (Purge stamp) = true
is_purge _ = false

abbrev pub is_down : Command → Bool
is_down (Down session) = true
is_down _ = false

abbrev pub is_dead_settle : Command → Bool
is_dead_settle (DeadSettle term done) = true
is_dead_settle _ = false

-- whether a command ends the delivery of an id to a consumer
abbrev pub ends_delivery : Command → ConsumerId → ℕ → Bool
ends_delivery (Settle stamp tag ids) consumer id =
    same_consumer consumer (consumer_id stamp tag) && list_any (nat_eq id) ids
ends_delivery (Return stamp tag ids) consumer id =
    same_consumer consumer (consumer_id stamp tag) && list_any (nat_eq id) ids
ends_delivery (Discard stamp tag ids) consumer id =
    same_consumer consumer (consumer_id stamp tag) && list_any (nat_eq id) ids
ends_delivery (Down session) consumer id = same_session consumer.session session
ends_delivery _ consumer id = false

-- whether a command of the worker of a term settles the dead letter of a number
abbrev pub settles_dead : Command → ℕ → ℕ → Bool
settles_dead (DeadSettle term done) attached number =
    nat_eq term.0 attached && list_any (λ (one : DeadDone). nat_eq one.number number) done
settles_dead _ attached number = false

-- deliveries go back at a return, and at the end of their consumer's session
abbrev pub may_go_back : Command → Bool
may_go_back command = is_return command || is_down command

-- A message is rejected by a discard, passes the delivery limit at a return or at the end of a session, and
-- is dropped at the head of a queue that drops there, at any command (RabbitMQ, "Dead Letter Exchanges").
abbrev pub may_die : QueueArgs → Command → Reason → Bool
may_die args command Rejected = is_discard command
may_die args command Expired = false
may_die args command MaxLen = is_drop_head args.overflow
may_die args command DeliveryLimit = may_go_back command

-- why a message is gone
abbrev pub may_go : QueueArgs → Command → GoneReason → Bool
may_go args command gone.Got = is_get command
may_go args command gone.Settled = is_settle command
may_go args command gone.Purged = is_purge command
may_go args command (gone.Died reason) = not (is_at_least_once args.strategy) && may_die args command reason
may_go args command gone.DeadLettered = is_dead_settle command

-- whether a command may bring a message to a place
abbrev pub may_move : QueueArgs → Command → Place → Bool
may_move args command (Dead number reason) = is_at_least_once args.strategy && may_die args command reason
may_move args command (Gone reason) = may_go args command reason
may_move args command _ = true

-- A message that was in the queue is at a place to which the command may bring it; a dead one leaves the
-- queue alone. What it is stays, and only a return counts it.
pub record Moves (args : QueueArgs) (command : Command) (old new : Row) : Type 0 where
  pub live : is_live old.place ≡ true
  pub index : new.index ≡ old.index
  pub arrival : new.arrival ≡ old.arrival
  pub size : new.size ≡ old.size
  pub place : may_move args command new.place ≡ true
  pub dead : is_dead old.place ≡ true → is_live new.place ≡ false
  pub rises : old.count ≤ new.count
  pub counted : (new.count ≡ old.count) ⊎ (may_go_back command ≡ true)

-- what one command does to a message: nothing, or it moves it
abbrev pub Follows : QueueArgs → Command → Row → Row → Type 0
Follows args command old new = (new ≡ old) ⊎ Moves args command old new
