-- What ends a delivery, and what becomes of its message (RabbitMQ, "Consumer Acknowledgements").
use Rattle.std.specs.Prelude.{◌≡◌, ◌⊎◌, ◌<◌, ℕ, ◌+◌, List, ◌∷◌, ◌++◌, true, false, Contains, Option, Some, None}
use Rattle.qq_base.specs.declared.ids.SessionId.{SessionId}
use Rattle.qq_base.specs.declared.ids.ConsumerId.{ConsumerId}
use Rattle.qq_entry.specs.Command.{consumer_id}
use Rattle.qq_entry.specs.declared.answer.Delivery.{Delivery}
use Rattle.qq_entry.specs.declared.audit.Effect.TheVariants.{Deliver}
use Rattle.qq_entry.specs.declared.command.Command.{Command}
use Rattle.qq_entry.specs.declared.command.Command.TheVariants.{Settle, Return, Discard, Down}
use Rattle.qq_entry.specs.declared.command.Entry.{Entry}
use Rattle.qq_entry.specs.declared.command.Stamp.{Stamp}
use Rattle.qq_entry.specs.declared.message.Reason.{Reason}
use Rattle.qq_entry.specs.declared.message.Reason.TheVariants.{Rejected, MaxLen, DeliveryLimit}
use Rattle.qq_model.specs.declared.consumer.Consumer.{Consumer}
use Rattle.qq_model.specs.declared.consumer.Outcome.{Outcome}
use Rattle.qq_model.specs.declared.consumer.Outcome.TheVariants.{Settled, Returned, Discarded}
use Rattle.qq_model.specs.declared.place.Key.TheVariants.{Front, Back}
use Rattle.qq_model.specs.declared.place.GoneReason.TheVariants as gone
use Rattle.qq_model.specs.declared.place.Place.{Place}
use Rattle.qq_model.specs.declared.place.Place.TheVariants.{Ready, Out, Dead, Gone}
use Rattle.qq_model.specs.declared.place.Row.{Row}
use Rattle.qq_model.specs.State.{State}
use Rattle.qq_model.specs.Gate.{IsNumbered}
use Rattle.qq_model.specs.Limits.{is_drop_head, has_passed}
use Rattle.qq_model.specs.Step.{Step}
use Rattle.qq_model.specs.Audit.{next_step}
use Rattle.qq_laws.specs.Served.{IsOutAs}

-- the command that ends the deliveries of these ids with an outcome: a settle, a return or a discard
abbrev pub disposition : Outcome → Stamp → ℕ → List ℕ → Command
disposition Settled given tag ids = Settle given tag ids
disposition Returned given tag ids = Return given tag ids
disposition Discarded given tag ids = Discard given tag ids

-- a message that died of this is gone, or dead where the queue keeps its dead
abbrev pub DiedOf : Reason → Place → Type 0
DiedOf cause place = (place ≡ Gone (gone.Died cause)) ⊎ ((number : ℕ) × (place ≡ Dead number cause))

-- a message is with a consumer as a delivery of a step shows it
abbrev pub IsDeliveredBy : Step → Row → Type 0
IsDeliveredBy made row =
    (consumer : ConsumerId) × (delivery : Delivery) × Contains made.effects (Deliver consumer delivery)
    × IsOutAs consumer delivery row

-- the place of a message that is returned, after so many returns under a delivery limit and so many messages at the back:
-- under a delivery limit it comes before all that wasn't returned and behind all that was, and else behind all
abbrev pub GoesBehind : Option ℕ → ℕ → ℕ → Place → Type 0
GoesBehind None returns orders place = (n : ℕ) × (place ≡ Ready (Back n)) × (orders < n)
GoesBehind (Some limit) returns orders place = (n : ℕ) × (place ≡ Ready (Front n)) × (returns < n)

-- a message that went back is ready, or the same step has delivered it anew, or dropped it at the head of a queue that
-- drops there
abbrev pub IsBack : State → Step → Row → Type 0
IsBack s made row =
    GoesBehind s.args.delivery_limit s.returns s.orders row.place
    ⊎ (IsDeliveredBy made row ⊎ ((is_drop_head s.args.overflow ≡ true) × DiedOf MaxLen row.place))

-- a message that was returned died where that was more often than the delivery limit allows, and else went back
pub record IsReturned (s : State) (made : Step) (row : Row) : Type 0 where
  pub passed : has_passed s.args.delivery_limit row.count ≡ true → DiedOf DeliveryLimit row.place
  pub back : has_passed s.args.delivery_limit row.count ≡ false → IsBack s made row

-- where the message of a delivery with this outcome is
abbrev pub IsPlaced : Outcome → State → Step → Row → Type 0
IsPlaced Settled s made row = row.place ≡ Gone gone.Settled
IsPlaced Returned s made row = IsReturned s made row
IsPlaced Discarded s made row = DiedOf Rejected row.place

-- a return counts
abbrev pub count_after : Outcome → ℕ → ℕ
count_after Returned count = count + 1
count_after _ count = count

-- what the end of its delivery makes of a message
pub record EndsAs (outcome : Outcome) (s : State) (made : Step) (old new : Row) : Type 0 where
  pub index : new.index ≡ old.index
  pub arrival : new.arrival ≡ old.arrival
  pub size : new.size ≡ old.size
  pub count : new.count ≡ count_after outcome old.count
  pub place : IsPlaced outcome s made new

-- a step leaves a message as the end of its delivery makes it
abbrev pub Ends : Outcome → State → Step → Row → Type 0
Ends outcome s made old = (new : Row) × Contains made.state.rows new × EndsAs outcome s made old new

-- no message is out with a consumer under an id
abbrev pub IsNotOut : State → ConsumerId → ℕ → Type 0
IsNotOut s consumer id = (row : Row) → Contains s.rows row → row.place ≡ Out consumer id → ⊥

-- A settle, return or discard that is carried out, of a client or of a worker that dead-letters at least once, ends
-- each delivery that it names and that is out: nothing is out with the consumer under the id, and its message is as
-- the outcome says.
abbrev pub EndsDeliveries : State → Entry → Type 0
EndsDeliveries s entry =
    let made = next_step s entry in
    (outcome : Outcome) (given : Stamp) (tag : ℕ) (ids : List ℕ) (id : ℕ) (row : Row) → IsNumbered given.session
    → entry.command ≡ disposition outcome given tag ids → made.fresh ≡ true → Contains ids id
    → Contains s.rows row → row.place ≡ Out (consumer_id given tag) id
    → IsNotOut made.state (consumer_id given tag) id × Ends outcome s made row

-- a settle, return or discard does and answers the same with an id that isn't out with its consumer as without it
abbrev pub PassesOver : State → Type 0
PassesOver s =
    (outcome : Outcome) (given : Stamp) (tag id : ℕ) (before after : List ℕ) (with' without : Entry)
    → with'.command ≡ disposition outcome given tag (before ++ id ∷ after)
    → without.command ≡ disposition outcome given tag (before ++ after)
    → IsNotOut s (consumer_id given tag) id → next_step s with' ≡ next_step s without

-- after its end a session has no consumers, nothing is out with one of them, and all that was has been returned
pub record EndsSession (s : State) (made : Step) (session : SessionId) : Type 0 where
  pub consumers : (one : Consumer) → Contains made.state.consumers one → one.id.session ≡ session → ⊥
  pub out : (consumer : ConsumerId) (id : ℕ) → consumer.session ≡ session → IsNotOut made.state consumer id
  pub returned : (row : Row) (consumer : ConsumerId) (id : ℕ) → Contains s.rows row → row.place ≡ Out consumer id
      → consumer.session ≡ session → Ends Returned s made row

abbrev pub EndsSessions : State → Entry → Type 0
EndsSessions s entry =
    (session : SessionId) → entry.command ≡ Down session → EndsSession s (next_step s entry) session

-- what is out with a consumer after an entry was so before it, or the entry delivers it
abbrev pub IsOutByDelivery : State → Entry → Type 0
IsOutByDelivery s entry =
    let made = next_step s entry in
    (row : Row) (consumer : ConsumerId) (id : ℕ) → Contains made.state.rows row → row.place ≡ Out consumer id
    → Contains s.rows row ⊎ ((delivery : Delivery) × Contains made.effects (Deliver consumer delivery)
    × IsOutAs consumer delivery row)
