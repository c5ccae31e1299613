-- What becomes of messages that have died (RabbitMQ, "Dead Letter Exchanges" and "At-Least-Once Dead Lettering").
use Rattle.std.specs.Prelude.{◌≡◌, ℕ, ◌+◌, ◌<◌, ◌≤◌, ◌⊎◌, List, [], ◌∷◌, Option, Some, None, Bool, true, false, ◌&&◌, cond, count_by, filter_map, nat_eq, nat_lt, nat_le, Contains, if◌then◌else◌}
use Rattle.qq_base.specs.declared.ids.Term.{Term}
use Rattle.qq_entry.specs.declared.answer.Answer.TheVariants.{Attached, DeadSettled, Stale}
use Rattle.qq_entry.specs.declared.audit.Effect.{Effect}
use Rattle.qq_entry.specs.declared.audit.Effect.TheVariants.{DeadOnce, Offer}
use Rattle.qq_entry.specs.declared.command.Command.{Command}
use Rattle.qq_entry.specs.declared.command.Command.TheVariants.{DeadAttach, DeadSettle}
use Rattle.qq_entry.specs.declared.command.DeadDone.{DeadDone}
use Rattle.qq_entry.specs.declared.command.Entry.{Entry}
use Rattle.qq_entry.specs.declared.message.Message.{Message}
use Rattle.qq_entry.specs.declared.message.Reason.{Reason}
use Rattle.qq_entry.specs.declared.queue.QueueArgs.{QueueArgs}
use Rattle.qq_entry.specs.declared.queue.Strategy.{Strategy}
use Rattle.qq_entry.specs.declared.queue.Strategy.TheVariants.{AtMostOnce}
use Rattle.qq_model.specs.declared.place.GoneReason.TheVariants as gone
use Rattle.qq_model.specs.declared.place.Place.{Place}
use Rattle.qq_model.specs.declared.place.Place.TheVariants.{Dead, Gone}
use Rattle.qq_model.specs.declared.place.Row.{Row}
use Rattle.qq_model.specs.State.{State, empty_queue}
use Rattle.qq_model.specs.declared.TheConstants.{MOST_GIVEN}
use Rattle.qq_model.specs.Limits.{is_dead}
use Rattle.qq_model.specs.Changes.{message_of}
use Rattle.qq_model.specs.Commands.{is_at_least_once}
use Rattle.qq_model.specs.Serving.{given_count}
use Rattle.qq_model.specs.Reasons.{settles_dead}
use Rattle.qq_model.specs.Audit.{next_step, effects_of}
use Rattle.qq_laws.specs.Always.{queue_after}

abbrev pub is_at_most_once : Strategy → Bool
is_at_most_once AtMostOnce = true
is_at_most_once _ = false

-- a choice among dead letters, by why the message died and by the message
abbrev pub Picks : Type 0
Picks = Reason → Message → Bool

-- whether a message that has died, and wasn't kept, is picked
abbrev pub is_picked : Picks → Place → Message → Bool
is_picked picks (Gone (gone.Died reason)) message = picks reason message
is_picked picks _ message = false

-- how many of the messages that have died, and weren't kept, are picked; beside each row stands its message
abbrev pub died_count : Picks → List Row → List Message → ℕ
died_count picks [] messages = 0
died_count picks (row ∷ rows) [] = 0
died_count picks (row ∷ rows) (message ∷ messages) =
    cond (is_picked picks row.place message) 1 0 + died_count picks rows messages

-- whether an effect is a dead letter that is sent at most once, and is picked
abbrev pub is_letter : Picks → Effect → Bool
is_letter picks (DeadOnce reason message) = picks reason message
is_letter picks _ = false

abbrev pub letter_count : Picks → List Effect → ℕ
letter_count picks effects = count_by (is_letter picks) effects

abbrev pub any_letter : Picks
any_letter reason message = true

-- Over all entries a queue that dead-letters at most once sends one dead letter for each message that has died, of that
-- message and with that reason: however they are picked, there are as many of the one as of the other. Another queue
-- sends none.
pub record SendsDeadOnce (args : QueueArgs) (entries : List Entry) : Type 0 where
  pub each : is_at_most_once args.strategy ≡ true → (picks : Picks)
      → let s = queue_after args entries in
      letter_count picks (effects_of (empty_queue args) entries) ≡ died_count picks s.rows s.messages
  pub none : is_at_most_once args.strategy ≡ false → letter_count any_letter (effects_of (empty_queue args) entries) ≡ 0

-- whether a command settles the dead letter of a number: it is of the worker that is attached, and that was given it
abbrev pub is_settled_by : Command → State → ℕ → Bool
is_settled_by command s number = settles_dead command s.attached number && nat_le number s.given

-- only a queue that dead-letters at least once keeps its dead
abbrev pub KeepsDead : State → Type 0
KeepsDead s =
    (row : Row) → Contains s.rows row → is_dead row.place ≡ true → is_at_least_once s.args.strategy ≡ true

-- a message that is dead stays so until the settlement of its number, and is gone by that
abbrev pub IsDeadUntilSettled : State → Entry → Type 0
IsDeadUntilSettled s entry =
    (row : Row) (number : ℕ) (cause : Reason) → Contains s.rows row → row.place ≡ Dead number cause
    → Contains (next_step s entry).state.rows
    (if is_settled_by entry.command s number then record row { place = Gone gone.DeadLettered } else row)

-- the numbers of the dead letters that are offered, in order
abbrev pub offered_number : Effect → Option ℕ
offered_number (Offer number reason message) = Some number
offered_number _ = None

-- numbers that rise from one to another
abbrev pub RisesTo : ℕ → List ℕ → ℕ → Type 0
RisesTo low [] high = high ≡ low
RisesTo low (n ∷ ns) high = (low < n) × RisesTo n ns high

abbrev pub offered_numbers : List Effect → List ℕ
offered_numbers effects = filter_map offered_number effects

-- the greatest number that the worker was given, as an entry begins to offer: another worker begins anew
abbrev pub given_before : State → State → ℕ
given_before old new = if nat_eq new.attached old.attached then old.given else 0

-- The dead letters that an entry offers have rising numbers, above what the worker was given before, up to what it was
-- given after. None between is left out. Each is of a message that is dead, with its number, its reason and its content.
pub record OffersInOrder (s : State) (entry : Entry) : Type 0 where
  pub rising : let made = next_step s entry in
      RisesTo (given_before s made.state) (offered_numbers made.effects) made.state.given
  pub all : let made = next_step s entry in
      (row : Row) (number : ℕ) (cause : Reason) → Contains made.state.rows row → row.place ≡ Dead number cause
      → number ≤ made.state.given
      → (number ≤ given_before s made.state) ⊎ Contains (offered_numbers made.effects) number
  pub shown : let made = next_step s entry in
      (number : ℕ) (cause : Reason) (message : Message) → Contains made.effects (Offer number cause message)
      → (row : Row) × Contains made.state.rows row × (row.place ≡ Dead number cause)
      × (message ≡ message_of made.state.rows made.state.messages row)

-- a worker that is attached was given all that are dead, unless it has as many under way as it may
abbrev pub IsGivenAll : State → Type 0
IsGivenAll s =
    0 < s.attached → given_count s.given s.rows < MOST_GIVEN
    → (row : Row) (number : ℕ) (cause : Reason) → Contains s.rows row → row.place ≡ Dead number cause
    → number ≤ s.given

abbrev pub is_dead_attach : Command → Bool
is_dead_attach (DeadAttach term) = true
is_dead_attach _ = false

-- The worker of a queue: it changes by an attachment of a greater term alone, in a queue that dead-letters at
-- least once. Another attachment is stale.
pub record WorkersTakeOver (s : State) (entry : Entry) : Type 0 where
  pub others : is_dead_attach entry.command ≡ false → (next_step s entry).state.attached ≡ s.attached
  pub taken : (term : Term) → entry.command ≡ DeadAttach term → is_at_least_once s.args.strategy ≡ true
      → s.attached < term.0
      → ((next_step s entry).state.attached ≡ term.0) × ((next_step s entry).answer ≡ Attached)
  pub stale : (term : Term) → entry.command ≡ DeadAttach term
      → (is_at_least_once s.args.strategy && nat_lt s.attached term.0) ≡ false
      → ((next_step s entry).state.attached ≡ s.attached) × ((next_step s entry).answer ≡ Stale)

-- whether a message is gone as a dead letter that was settled
abbrev pub is_lettered : Place → Bool
is_lettered (Gone gone.DeadLettered) = true
is_lettered _ = false

abbrev pub lettered_count : List Row → ℕ
lettered_count rows = count_by (λ (row : Row). is_lettered row.place) rows

-- a settlement by the worker that is attached answers how many dead letters are gone by it; another one is stale
pub record CountsSettlements (s : State) (entry : Entry) : Type 0 where
  pub settled : (term : Term) (done : List DeadDone) → entry.command ≡ DeadSettle term done
      → is_at_least_once s.args.strategy ≡ true → term.0 ≡ s.attached
      → (n : ℕ) × ((next_step s entry).answer ≡ DeadSettled n)
      × (lettered_count (next_step s entry).state.rows ≡ lettered_count s.rows + n)
  pub stale : (term : Term) (done : List DeadDone) → entry.command ≡ DeadSettle term done
      → (is_at_least_once s.args.strategy && nat_eq term.0 s.attached) ≡ false
      → (next_step s entry).answer ≡ Stale
