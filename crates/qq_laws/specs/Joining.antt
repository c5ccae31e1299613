-- Which consumers are there (AMQP 0-9-1, basic.consume and basic.cancel).
use Rattle.std.specs.Prelude.{◌≡◌, ◌⊎◌, ℕ, Bool, true, false, not, ◌||◌, nat_le, length, Contains}
use Rattle.qq_base.specs.declared.ids.ConsumerId.{ConsumerId}
use Rattle.qq_base.specs.Ids.{same_session, same_consumer}
use Rattle.qq_entry.specs.Command.{consumer_id}
use Rattle.qq_entry.specs.declared.answer.Answer.{Answer}
use Rattle.qq_entry.specs.declared.answer.Answer.TheVariants.{Subscribed, Done}
use Rattle.qq_entry.specs.declared.command.Command.{Command}
use Rattle.qq_entry.specs.declared.command.Command.TheVariants.{Subscribe, Cancel, Down}
use Rattle.qq_entry.specs.declared.command.Entry.{Entry}
use Rattle.qq_entry.specs.declared.command.Mode.{Mode}
use Rattle.qq_entry.specs.declared.command.Stamp.{Stamp}
use Rattle.qq_model.specs.declared.TheConstants.{MOST_CONSUMERS}
use Rattle.qq_model.specs.declared.consumer.Consumer.{Consumer}
use Rattle.qq_model.specs.State.{State}
use Rattle.qq_model.specs.Gate.{IsNumbered, greatest_tag}
use Rattle.qq_model.specs.Audit.{next_step}

-- a consumer of an id and a mode that isn't cancelled
pub record Consumes (id : ConsumerId) (mode : Mode) (one : Consumer) : Type 0 where
  pub itself : one.id ≡ id
  pub kind : one.mode ≡ mode
  pub going : one.cancelled ≡ false

-- one is there
abbrev pub HasConsumer : State → ConsumerId → Mode → Type 0
HasConsumer s id mode = (one : Consumer) × Contains s.consumers one × Consumes id mode one

-- a subscribe of a numbered session that is carried out, and not refused, has its consumer join
abbrev pub Joins : State → Entry → Type 0
Joins s entry =
    let made = next_step s entry in
    (given : Stamp) (tag : ℕ) (mode : Mode) → IsNumbered given.session → entry.command ≡ Subscribe given tag mode → made.fresh ≡ true
    → made.answer ≡ Subscribed → HasConsumer made.state (consumer_id given tag) mode

abbrev pub is_subscribed : Answer → Bool
is_subscribed Subscribed = true
is_subscribed _ = false

-- a subscribe that is carried out is refused exactly where its tag isn't above all that its session used, or where the
-- queue has as many consumers as it may
abbrev pub RefusesAtLimits : State → Entry → Type 0
RefusesAtLimits s entry =
    let made = next_step s entry in
    (given : Stamp) (tag : ℕ) (mode : Mode) → entry.command ≡ Subscribe given tag mode → made.fresh ≡ true
    → is_subscribed made.answer
    ≡ not (nat_le tag (greatest_tag given.session s.sessions) || nat_le MOST_CONSUMERS (length s.consumers))

-- whether a command ends a consumer: it cancels it, or ends its session
abbrev pub ends_consumer : Command → ConsumerId → Bool
ends_consumer (Cancel stamp tag) id = same_consumer id (consumer_id stamp tag)
ends_consumer (Down session) id = same_session id.session session
ends_consumer _ id = false

-- a consumer of a numbered session stays, until it is cancelled or its session ends
abbrev pub StaysThere : State → Entry → Type 0
StaysThere s entry =
    (one : Consumer) → Contains s.consumers one → IsNumbered one.id.session → one.cancelled ≡ false → ends_consumer entry.command one.id ≡ false
    → HasConsumer (next_step s entry).state one.id one.mode

-- a cancel that is carried out, and not refused, leaves no consumer of its id but cancelled ones
abbrev pub CancelsConsumer : State → Entry → Type 0
CancelsConsumer s entry =
    let made = next_step s entry in
    (given : Stamp) (tag : ℕ) (one : Consumer) → entry.command ≡ Cancel given tag → made.fresh ≡ true
    → made.answer ≡ Done → Contains made.state.consumers one → one.id ≡ consumer_id given tag → one.cancelled ≡ true

-- a consumer that is there was so before, in the same mode and no less cancelled, or the command is its subscribe
abbrev pub CameFrom : State → Command → Consumer → Type 0
CameFrom s command one =
    ((old : Consumer) × Contains s.consumers old × (old.id ≡ one.id) × (old.mode ≡ one.mode)
    × (old.cancelled ≡ true → one.cancelled ≡ true))
    ⊎ ((given : Stamp) × (tag : ℕ) × (command ≡ Subscribe given tag one.mode) × (one.id ≡ consumer_id given tag))

-- nobody joins but by a subscribe, and nobody who was cancelled is there again
abbrev pub OnlyJoin : State → Entry → Type 0
OnlyJoin s entry =
    (one : Consumer) → Contains (next_step s entry).state.consumers one → CameFrom s entry.command one
