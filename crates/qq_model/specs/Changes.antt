-- Changes of a queue that several commands share.
use Rattle.std.specs.Prelude.{ℕ, zero, suc, ◌+◌, List, [], ◌∷◌, ◌++◌, Option, Some, None, Bool, map, find, filter, nat_eq, nat_lt, slice_get, unwrap_or, position, not, ◌&&◌, if◌then◌else◌}
use Rattle.std.specs.Option.{option_and_then, option_map_or}
use Rattle.qq_base.specs.declared.ids.ConsumerId.{ConsumerId}
use Rattle.qq_entry.specs.declared.message.Message.{Message}
use Rattle.qq_entry.specs.declared.message.Reason.{Reason}
use Rattle.qq_entry.specs.declared.message.Reason.TheVariants.{DeliveryLimit}
use Rattle.qq_entry.specs.declared.answer.Delivery.{Delivery}
use Rattle.qq_entry.specs.declared.audit.Effect.{Effect}
use Rattle.qq_entry.specs.declared.audit.Effect.TheVariants.{DeadOnce}
use Rattle.qq_entry.specs.declared.queue.Strategy.{Strategy}
use Rattle.qq_entry.specs.declared.queue.Strategy.TheVariants.{Absent, AtMostOnce, AtLeastOnce}
use Rattle.qq_model.specs.declared.place.Key.TheVariants.{Front, Back}
use Rattle.qq_model.specs.declared.place.GoneReason.TheVariants.{Died}
use Rattle.qq_model.specs.declared.place.Place.TheVariants.{Ready, Dead, Gone}
use Rattle.qq_model.specs.declared.place.Row.{Row}
use Rattle.qq_model.specs.declared.consumer.Consumer.{Consumer}
use Rattle.qq_model.specs.State.{State}
use Rattle.qq_base.specs.Ids.{same_consumer}
use Rattle.qq_model.specs.Choice.{out_count, free_credit}
use Rattle.qq_model.specs.Limits.{has_passed}

-- a step under way: the state so far, and the effects so far
pub record Progress : Type 0 where
  pub state : State
  pub effects : List Effect

-- while there is a next one, on to it; the number bounds how often that can be
abbrev pub while_next : {A : Type 0} → ℕ → (A → Option A) → A → A
while_next zero next a = a
while_next (suc n) next a = option_map_or (while_next n next) (next a) a

-- the row of an index is this one
abbrev pub put_row : Row → List Row → List Row
put_row new rows = map (λ (row : Row). if nat_eq row.index.0 new.index.0 then new else row) rows

-- the consumer of an id is this one
abbrev pub put_consumer : Consumer → List Consumer → List Consumer
put_consumer new consumers =
    map (λ (consumer : Consumer). if same_consumer consumer.id new.id then new else consumer) consumers

-- the consumer of an id
abbrev pub consumer_of : ConsumerId → List Consumer → Option Consumer
consumer_of id consumers = find (λ (consumer : Consumer). same_consumer consumer.id id) consumers

-- the message of a row, which stands at the same place; one without its content where it isn't there
abbrev pub message_of : List Row → List Message → Row → Message
message_of rows messages row =
    unwrap_or
    (option_and_then (slice_get messages) (position (λ (other : Row). nat_eq other.index.0 row.index.0) rows))
    (record { size = row.size; content = None })

-- what a consumer or a get sees of a message, as the delivery of an id
abbrev pub delivery_of : State → ℕ → Row → Delivery
delivery_of s id row =
    record {
      index = row.index;
      arrival = row.arrival;
      id = id;
      count = row.count;
      message = message_of s.rows s.messages row;
    }

-- A message dies. Without dead lettering, and at most once, it is gone; at most once it leaves as a dead
-- letter; at least once it stays until its targets have confirmed it (RabbitMQ, "Dead Letter Exchanges").
abbrev pub die_by : Strategy → Reason → Row → Progress → Progress
die_by Absent reason row p =
    record p {
      state = record (p.state) { rows = put_row (record row { place = Gone (Died reason) }) p.state.rows };
    }
die_by AtMostOnce reason row p =
    record {
      state = record (p.state) { rows = put_row (record row { place = Gone (Died reason) }) p.state.rows };
      effects = p.effects ++ DeadOnce reason (message_of p.state.rows p.state.messages row) ∷ [];
    }
die_by AtLeastOnce reason row p =
    record p {
      state =
          record (p.state) {
            deads = p.state.deads + 1;
            rows = put_row (record row { place = Dead (p.state.deads + 1) reason }) p.state.rows;
          };
    }

-- a message dies as the queue's strategy says
unfoldable pub die : Reason → Row → Progress → Progress
die reason row p = die_by p.state.args.strategy reason row p

-- the places that a returned message gets: before all others under a delivery limit, else at the back
abbrev pub go_back : Option ℕ → Row → Progress → Progress
go_back None row p =
    record p {
      state =
          record (p.state) {
            orders = p.state.orders + 1;
            rows = put_row (record row { place = Ready (Back (p.state.orders + 1)) }) p.state.rows;
          };
    }
go_back (Some limit) row p =
    record p {
      state =
          record (p.state) {
            returns = p.state.returns + 1;
            rows = put_row (record row { place = Ready (Front (p.state.returns + 1)) }) p.state.rows;
          };
    }

-- a message that was counted once more goes back, or dies where that was more often than the delivery limit
-- allows (RabbitMQ, "Quorum Queues", "Poison Message Handling")
abbrev pub return_counted : Row → Progress → Progress
return_counted row p =
    if has_passed p.state.args.delivery_limit row.count then die DeliveryLimit row p
    else go_back p.state.args.delivery_limit row p

-- a message is returned to the queue
unfoldable pub return_row : Row → Progress → Progress
return_row row p = return_counted (record row { count = row.count + 1 }) p

-- a consumer that was cancelled stays only for what it hasn't settled
abbrev pub is_needed : List Row → Consumer → Bool
is_needed rows consumer = not (consumer.cancelled && nat_eq (out_count consumer.id rows) 0)

-- those that aren't needed any more leave
abbrev pub drop_finished : State → State
drop_finished s = record s { consumers = filter (is_needed s.rows) s.consumers }

-- the free credit of the consumer of an id, 0 where there is none
abbrev pub credit_of : ConsumerId → List Row → List Consumer → ℕ
credit_of id rows consumers = option_map_or (free_credit rows) (consumer_of id consumers) 0

-- a consumer gets the next turn
abbrev pub take_turn : Option Consumer → State → State
take_turn None s = s
take_turn (Some consumer) s =
    record s {
      turns = s.turns + 1;
      consumers = put_consumer (record consumer { turn = s.turns + 1 }) s.consumers;
    }

-- a consumer whose free credit was 0 and is more now begins to wait for its turn
abbrev pub begin_to_wait : ℕ → ConsumerId → State → State
begin_to_wait before id s =
    if nat_eq before 0 && nat_lt 0 (credit_of id s.rows s.consumers) then take_turn (consumer_of id s.consumers) s
    else s
