-- What an entry does to a message, and why: its command by itself, then the deliveries, then the limits.
use Rattle.std.specs.Prelude.{◌≡◌, ℕ, ◌+◌, ◌++◌, ◌<◌, ◌≤◌, ◌⊎◌, List, Option, Some, None, Bool, true, false, not, filter}
use Rattle.std.specs.List.{AllZip}
use Rattle.qq_base.specs.declared.ids.ConsumerId.{ConsumerId}
use Rattle.qq_entry.specs.declared.command.Command.{Command}
use Rattle.qq_entry.specs.declared.command.Entry.{Entry}
use Rattle.qq_entry.specs.declared.message.Reason.{Reason}
use Rattle.qq_entry.specs.declared.message.Reason.TheVariants as reason
use Rattle.qq_entry.specs.declared.queue.QueueArgs.{QueueArgs}
use Rattle.qq_entry.specs.declared.queue.Strategy.{Strategy}
use Rattle.qq_entry.specs.declared.queue.Strategy.TheVariants.{AtLeastOnce}
use Rattle.qq_model.specs.declared.place.GoneReason.TheVariants as gone
use Rattle.qq_model.specs.declared.place.Key.{Key}
use Rattle.qq_model.specs.declared.place.Key.TheVariants.{Front, Back}
use Rattle.qq_model.specs.declared.place.Place.{Place}
use Rattle.qq_model.specs.declared.place.Place.TheVariants.{Ready, Out, Dead, Gone}
use Rattle.qq_model.specs.declared.place.Row.{Row}
use Rattle.qq_model.specs.State.{State}
use Rattle.qq_model.specs.Choice.{is_lesser, key_less, ready_key}
use Rattle.qq_model.specs.Limits.{is_ready, is_over_limit, has_passed}
use Rattle.qq_model.specs.Reasons.{is_get, is_settle, is_discard, is_purge, may_go_back, ends_delivery, settles_dead}
use Rattle.qq_model.specs.Step.{Step}
use Rattle.qq_model.specs.Audit.{next_index, next_step}
use Rattle.qq_laws.specs.Published.{new_message}
use Rattle.qq_laws.specs.Rows.{new_rows}
use Rattle.qq_laws.specs.Turns.{IsFirstMessage}

-- the place of a message that has died: among the dead, under a number, where the queue keeps its dead; else gone
abbrev pub death_place : Strategy → ℕ → Reason → Place
death_place AtLeastOnce number reason = Dead number reason
death_place _ number reason = Gone (gone.Died reason)

-- what a message at a place has died of
abbrev pub died_of : Place → Option Reason
died_of (Dead number reason) = Some reason
died_of (Gone (gone.Died reason)) = Some reason
died_of _ = None

abbrev pub IsDeath : QueueArgs → Reason → Place → Type 0
IsDeath args reason place = (number : ℕ) × (place ≡ death_place args.strategy number reason)

-- the key of a message that goes back: before all others under a delivery limit, else behind them
abbrev pub returned_key : Option ℕ → ℕ → Key
returned_key None n = Back n
returned_key (Some limit) n = Front n

-- the number of the last key of that kind that a queue gave
abbrev pub last_key : Option ℕ → State → ℕ
last_key None s = s.orders
last_key (Some limit) s = s.returns

-- a key for what goes back now: behind all that a queue gave of that kind before
abbrev pub IsReturnedKey : State → Key → Type 0
IsReturnedKey s key =
    let limit = s.args.delivery_limit in (n : ℕ) × (last_key limit s < n) × (key ≡ returned_key limit n)

-- How a command ends a delivery, or a dead letter: the consumer and the id of the delivery are those that it names, and so
-- is the number of the dead letter, which the worker of the command's term was given.
pub data DisposesOf (s : State) (command : Command) (old new : Row) : Type 0 where
  IsSettled : (consumer : ConsumerId) (id : ℕ) → old.place ≡ Out consumer id → is_settle command ≡ true
      → ends_delivery command consumer id ≡ true → new ≡ record old { place = Gone gone.Settled }
      → DisposesOf s command old new
  IsDiscarded : (consumer : ConsumerId) (id : ℕ) (place : Place) → old.place ≡ Out consumer id
      → is_discard command ≡ true → ends_delivery command consumer id ≡ true → IsDeath s.args reason.Rejected place
      → new ≡ record old { place = place } → DisposesOf s command old new
  GoesBack : (consumer : ConsumerId) (id : ℕ) (key : Key) → old.place ≡ Out consumer id
      → may_go_back command ≡ true → ends_delivery command consumer id ≡ true
      → has_passed s.args.delivery_limit (old.count + 1) ≡ false → IsReturnedKey s key
      → new ≡ record old { count = old.count + 1; place = Ready key } → DisposesOf s command old new
  PassesLimit : (consumer : ConsumerId) (id : ℕ) (place : Place) → old.place ≡ Out consumer id
      → may_go_back command ≡ true → ends_delivery command consumer id ≡ true
      → has_passed s.args.delivery_limit (old.count + 1) ≡ true → IsDeath s.args reason.DeliveryLimit place
      → new ≡ record old { count = old.count + 1; place = place } → DisposesOf s command old new
  IsDeadLettered : (number : ℕ) (cause : Reason) → old.place ≡ Dead number cause
      → settles_dead command s.attached number ≡ true → number ≤ s.given
      → new ≡ record old { place = Gone gone.DeadLettered } → DisposesOf s command old new

-- what a command itself does to a message: nothing, or a get takes the first one, a purge the ready ones, or it ends a
-- delivery or a dead letter
pub data ActsOn (s : State) (command : Command) (old new : Row) : Type 0 where
  Stays : new ≡ old → ActsOn s command old new
  IsGot : is_get command ≡ true → IsFirstMessage s.rows old → new ≡ record old { place = Gone gone.Got }
      → ActsOn s command old new
  IsPurged : is_purge command ≡ true → is_ready old.place ≡ true → new ≡ record old { place = Gone gone.Purged }
      → ActsOn s command old new
  IsEnded : DisposesOf s command old new → ActsOn s command old new

-- a message stays where it is, or one of the queue is delivered
abbrev pub IsServed : Row → Row → Type 0
IsServed old new =
    (new ≡ old)
    ⊎ ((consumer : ConsumerId) × (id : ℕ) × (is_ready old.place ≡ true)
    × (new ≡ record old { place = Out consumer id }))

-- whether a message of the queue comes before another
abbrev pub comes_before : Row → Row → Bool
comes_before row other = is_lesser key_less (ready_key row) (ready_key other)

-- the messages without those that come before this one
abbrev pub rows_from : Row → List Row → List Row
rows_from row rows = filter (λ (other : Row). not (comes_before other row)) rows

-- what the limits make of a message: where the queue without those before it is past a limit it dies, else it stays
abbrev pub IsLimited : QueueArgs → List Row → Row → Row → Type 0
IsLimited args rows old new =
    let over = is_over_limit args (rows_from old rows) in
    ((new ≡ old) × (is_ready old.place ≡ true → over ≡ false))
    ⊎ ((place : Place) × (is_ready old.place ≡ true) × (over ≡ true) × IsDeath args reason.MaxLen place
    × (new ≡ record old { place = place }))

-- Each message that there was, and one that the entry brings, as the command itself leaves it, as the deliveries then leave
-- it, and as the limits then leave it.
pub record ExplainsMoves (s : State) (entry : Entry) (made : Step) : Type 0 where
  pub acted : List Row
  pub served : List Row
  pub acts : AllZip (ActsOn s entry.command)
      (s.rows ++ new_rows s (next_index s) (new_message made.fresh made.answer entry.command)) acted
  pub serves : AllZip IsServed acted served
  pub limits : AllZip (IsLimited s.args served) served made.state.rows

-- an entry that is carried out moves messages so
abbrev pub MovesForReasons : State → Entry → Type 0
MovesForReasons s entry = (next_step s entry).fresh ≡ true → ExplainsMoves s entry (next_step s entry)
