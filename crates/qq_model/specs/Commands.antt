-- What each command does and answers.
use Rattle.std.specs.Prelude.{ℕ, List, [], ◌∷◌, ◌+◌, ◌-◌, ◌++◌, length, Option, Some, None, map, fold, find, filter, not, Bool, true, false, ◌&&◌, nat_eq, nat_lt, nat_le, if◌then◌else◌}
use Rattle.qq_base.specs.declared.ids.Index.{Index}
use Rattle.qq_base.specs.declared.ids.Term.{Term}
use Rattle.qq_base.specs.declared.ids.SessionId.{SessionId}
use Rattle.qq_base.specs.declared.ids.ConsumerId.{ConsumerId}
use Rattle.qq_base.specs.Ids.{same_session, same_consumer}
use Rattle.qq_entry.specs.Command.{consumer_id}
use Rattle.qq_entry.specs.declared.message.Message.{Message}
use Rattle.qq_entry.specs.declared.message.Reason.TheVariants as reason
use Rattle.qq_entry.specs.declared.command.Command.{Command}
use Rattle.qq_entry.specs.declared.command.Command.TheVariants.{Noop, Enqueue, Get, Subscribe, Cancel, Credit, Settle, Return, Discard, Purge, Down, DeadAttach, DeadSettle}
use Rattle.qq_entry.specs.declared.command.DeadDone.{DeadDone}
use Rattle.qq_entry.specs.declared.command.Mode.{Mode}
use Rattle.qq_entry.specs.declared.command.Mode.TheVariants.{Prefetch, Link}
use Rattle.qq_entry.specs.declared.answer.Answer.{Answer}
use Rattle.qq_entry.specs.declared.answer.Answer.TheVariants as answer
use Rattle.qq_entry.specs.declared.answer.Cause.{Cause}
use Rattle.qq_entry.specs.declared.answer.Cause.TheVariants.{SingleActive, NumberSpent, ConsumersFull, NoConsumer, WrongMode}
use Rattle.qq_entry.specs.declared.answer.Full.{Full}
use Rattle.qq_entry.specs.declared.queue.Strategy.{Strategy}
use Rattle.qq_entry.specs.declared.queue.Strategy.TheVariants.{AtLeastOnce}
use Rattle.qq_model.specs.declared.TheConstants.{MOST_CONSUMERS}
use Rattle.qq_model.specs.declared.place.Key.TheVariants.{Back}
use Rattle.qq_model.specs.declared.place.GoneReason.TheVariants as gone
use Rattle.qq_model.specs.declared.place.Place.{Place}
use Rattle.qq_model.specs.declared.place.Place.TheVariants.{Ready, Out, Dead, Gone}
use Rattle.qq_model.specs.declared.place.Row.{Row}
use Rattle.qq_model.specs.declared.consumer.Consumer.{Consumer}
use Rattle.qq_model.specs.declared.consumer.Outcome.{Outcome}
use Rattle.qq_model.specs.declared.consumer.Outcome.TheVariants.{Settled, Returned, Discarded}
use Rattle.qq_model.specs.State.{State}
use Rattle.qq_model.specs.Choice.{least_by, next_message, out_count}
use Rattle.qq_model.specs.Limits.{publish_limit, is_ready, ready_count}
use Rattle.qq_model.specs.Changes.{Progress, while_next, put_row, put_consumer, consumer_of, delivery_of, die, return_row, drop_finished, credit_of, begin_to_wait}
use Rattle.qq_model.specs.Gate.{greatest_tag, take_tag, end_session}

-- a step under way, and the answer so far
pub record Acted : Type 0 where
  pub progress : Progress
  pub answer : Answer

-- nothing happens but an answer
abbrev pub reply : Answer → Progress → Acted
reply answer p = record { progress = p; answer = answer }

-- another state, with the same effects so far
abbrev pub set_state : State → Progress → Progress
set_state s p = record p { state = s }

abbrev pub refuse : Cause → Progress → Acted
refuse cause p = reply (answer.Refused cause) p

-- Enqueue ---------------------------------------------------------------------------------------------

-- a message at the back of the queue
abbrev pub append_message : State → Index → Message → State
append_message s index message =
    record s {
      arrivals = s.arrivals + 1;
      orders = s.orders + 1;
      rows =
          s.rows
          ++ record {
            index = index;
            arrival = s.arrivals + 1;
            count = 0;
            size = message.size;
            place = Ready (Back (s.orders + 1));
          }
          ∷ [];
      messages = s.messages ++ message ∷ [];
    }

-- a publish is confirmed unless it meets a limit (RabbitMQ, "Publisher Confirms" and "Queue Length Limit")
abbrev pub enqueue_by : Option Full → Index → Message → Progress → Acted
enqueue_by (Some full) index message p = reply (answer.Rejected full) p
enqueue_by None index message p = reply answer.Confirmed (set_state (append_message p.state index message) p)

unfoldable pub enqueue : Index → Message → Progress → Acted
enqueue index message p = enqueue_by (publish_limit p.state.args p.state.rows) index message p

-- Get -------------------------------------------------------------------------------------------------

-- a message is at another place
abbrev pub move_row : Row → Place → State → State
move_row row place s = record s { rows = put_row (record row { place = place }) s.rows }

-- a get takes the next message, settled at once (AMQP 0-9-1, basic.get with no-ack)
abbrev pub get_by : Option Row → Progress → Acted
get_by None p = reply answer.Empty p
get_by (Some row) p =
    reply (answer.Got (delivery_of p.state 0 row)) (set_state (move_row row (Gone gone.Got) p.state) p)

-- a queue with a single active consumer refuses a get (RabbitMQ, "Quorum Queues")
unfoldable pub get : Progress → Acted
get p = if p.state.args.single_active then refuse SingleActive p else get_by (next_message p.state.rows) p

-- Subscribe -------------------------------------------------------------------------------------------

-- a consumer as it joins, with its turn
abbrev pub new_consumer : ConsumerId → Mode → ℕ → Consumer
new_consumer id mode turn =
    record { id = id; mode = mode; credit = 0; next_id = 1; count = 0; turn = turn; cancelled = false }

abbrev pub join : ConsumerId → Mode → State → State
join id mode s =
    record s {
      turns = s.turns + 1;
      consumers = s.consumers ++ new_consumer id mode (s.turns + 1) ∷ [];
      sessions = take_tag id.session id.tag s.sessions;
    }

-- a consumer joins at the end, with a tag above all that its session used (AMQP 0-9-1, basic.consume)
unfoldable pub subscribe : ConsumerId → Mode → Progress → Acted
subscribe id mode p =
    if nat_le id.tag (greatest_tag id.session p.state.sessions) then refuse NumberSpent p
    else if nat_le MOST_CONSUMERS (length p.state.consumers) then refuse ConsumersFull p
    else reply answer.Subscribed (set_state (join id mode p.state) p)

-- Cancel ----------------------------------------------------------------------------------------------

-- a cancelled consumer gets no more, and keeps what it has (AMQP 0-9-1, basic.cancel)
abbrev pub cancel_by : Option Consumer → Progress → Acted
cancel_by None p = refuse NoConsumer p
cancel_by (Some consumer) p =
    let consumers = put_consumer (record consumer { cancelled = true }) p.state.consumers in
    if consumer.cancelled then refuse NoConsumer p
    else reply answer.Done (set_state (drop_finished (record (p.state) { consumers = consumers })) p)

unfoldable pub cancel : ConsumerId → Progress → Acted
cancel id p = cancel_by (consumer_of id p.state.consumers) p

-- Credit ----------------------------------------------------------------------------------------------

-- the credit as the receiver sees it, less what was delivered since (AMQP 1.0, section 2.6.7)
abbrev pub set_credit : Consumer → ℕ → State → State
set_credit consumer credit s =
    record s { consumers = put_consumer (record consumer { credit = credit - consumer.count }) s.consumers }

abbrev pub credit_by_mode : Mode → Consumer → ℕ → Progress → Acted
credit_by_mode (Prefetch prefetch) consumer credit p = refuse WrongMode p
credit_by_mode Link consumer credit p =
    let before = credit_of consumer.id p.state.rows p.state.consumers in
    reply (answer.Credited 0) (set_state (begin_to_wait before consumer.id (set_credit consumer credit p.state)) p)

abbrev pub credit_by : Option Consumer → ℕ → Progress → Acted
credit_by None credit p = refuse NoConsumer p
credit_by (Some consumer) credit p =
    if consumer.cancelled then refuse NoConsumer p else credit_by_mode consumer.mode consumer credit p

unfoldable pub give_credit : ConsumerId → ℕ → Progress → Acted
give_credit id credit p = credit_by (consumer_of id p.state.consumers) credit p

-- Settle, Return, Discard -----------------------------------------------------------------------------

-- whether a place is the delivery of an id to a consumer
abbrev pub is_delivery : ConsumerId → ℕ → Place → Bool
is_delivery consumer id (Out other number) = same_consumer other consumer && nat_eq number id
is_delivery consumer id _ = false

-- the message that is with a consumer as the delivery of an id
abbrev pub delivered_row : ConsumerId → ℕ → List Row → Option Row
delivered_row consumer id rows = find (λ (row : Row). is_delivery consumer id row.place) rows

-- a delivery ends (AMQP 0-9-1, basic.ack, basic.nack and basic.reject)
abbrev pub end_delivery : Outcome → Row → Progress → Progress
end_delivery Settled row p = set_state (move_row row (Gone gone.Settled) p.state) p
end_delivery Returned row p = return_row row p
end_delivery Discarded row p = die reason.Rejected row p

abbrev pub end_delivery_by : Outcome → Option Row → Progress → Progress
end_delivery_by outcome None p = p
end_delivery_by outcome (Some row) p = end_delivery outcome row p

-- each id that is with the consumer ends, in the given order
abbrev pub end_deliveries : Outcome → ConsumerId → List ℕ → Progress → Progress
end_deliveries outcome consumer ids p =
    fold
    (λ (now : Progress) (id : ℕ). end_delivery_by outcome (delivered_row consumer id now.state.rows) now)
    p ids

-- once its deliveries have ended, a consumer that was cancelled may leave, and another may begin to wait
abbrev pub leave_or_wait : ConsumerId → ℕ → Progress → Progress
leave_or_wait consumer before p = set_state (begin_to_wait before consumer (drop_finished p.state)) p

abbrev pub finish_by : Option Consumer → Outcome → ConsumerId → List ℕ → Progress → Acted
finish_by None outcome consumer ids p = refuse NoConsumer p
finish_by (Some found) outcome consumer ids p =
    let before = credit_of consumer p.state.rows p.state.consumers in
    reply answer.Done (leave_or_wait consumer before (end_deliveries outcome consumer ids p))

unfoldable pub finish : Outcome → ConsumerId → List ℕ → Progress → Acted
finish outcome consumer ids p = finish_by (consumer_of consumer p.state.consumers) outcome consumer ids p

-- Purge -----------------------------------------------------------------------------------------------

-- a message that is ready is gone
abbrev pub purge_row : Row → Row
purge_row row = if is_ready row.place then record row { place = Gone gone.Purged } else row

-- all ready messages are gone (AMQP 0-9-1, queue.purge)
unfoldable pub purge : Progress → Acted
purge p =
    reply (answer.Purged (ready_count p.state.rows))
    (set_state (record (p.state) { rows = map purge_row p.state.rows }) p)

-- Down ------------------------------------------------------------------------------------------------

-- the id of a delivery to a consumer
abbrev pub delivery_id : ConsumerId → Place → Option ℕ
delivery_id consumer (Out other id) = if same_consumer other consumer then Some id else None
delivery_id consumer _ = None

-- the delivery to a consumer of least id
abbrev pub first_delivery : ConsumerId → List Row → Option Row
first_delivery consumer rows = least_by nat_lt (λ (row : Row). delivery_id consumer row.place) rows

abbrev pub return_by : Option Row → Progress → Option Progress
return_by None p = None
return_by (Some row) p = Some (return_row row p)

abbrev pub return_first : ConsumerId → Progress → Option Progress
return_first consumer p = return_by (first_delivery consumer p.state.rows) p

-- all deliveries to a consumer are returned, by rising id
unfoldable pub return_all : Consumer → Progress → Progress
return_all consumer p = while_next (out_count consumer.id p.state.rows) (return_first consumer.id) p

-- whether a consumer is one of a session
abbrev pub is_of_session : SessionId → Consumer → Bool
is_of_session session consumer = same_session consumer.id.session session

-- the consumers of a session give back what they have, in the order of joining, and go
abbrev pub return_session : SessionId → List Consumer → Progress → Progress
return_session session consumers p =
    fold
    (λ (now : Progress) (consumer : Consumer). if is_of_session session consumer then return_all consumer now
    else now)
    p consumers

abbrev pub leave : SessionId → State → State
leave session s =
    record s {
      consumers = filter (λ (consumer : Consumer). not (is_of_session session consumer)) s.consumers;
      sessions = end_session s.sessions session;
    }

-- the end of a session ends its consumers, whose deliveries go back (RabbitMQ, "Consumer Acknowledgements",
-- automatic requeueing)
unfoldable pub down : SessionId → Progress → Acted
down session p =
    let back = return_session session p.state.consumers p in
    reply answer.Down (set_state (leave session back.state) back)

-- DeadAttach, DeadSettle ------------------------------------------------------------------------------

-- whether a queue keeps its dead for a dead-letter worker
abbrev pub is_at_least_once : Strategy → Bool
is_at_least_once AtLeastOnce = true
is_at_least_once _ = false

-- the dead-letter worker of a greater term takes over, and begins anew (RabbitMQ, "At-Least-Once Dead Lettering")
unfoldable pub dead_attach : Term → Progress → Acted
dead_attach term p =
    if is_at_least_once p.state.args.strategy && nat_lt p.state.attached term.0 then
    reply answer.Attached (set_state (record (p.state) { attached = term.0; given = 0 }) p)
    else reply answer.Stale p

-- whether a place is dead, with this number
abbrev pub is_dead_number : ℕ → Place → Bool
is_dead_number number (Dead other reason) = nat_eq other number
is_dead_number number _ = false

-- the dead message of a number
abbrev pub dead_row : ℕ → List Row → Option Row
dead_row number rows = find (λ (row : Row). is_dead_number number row.place) rows

-- the same, if the present worker was given it
abbrev pub given_row : ℕ → State → Option Row
given_row number s = if nat_le number s.given then dead_row number s.rows else None

-- the progress so far, and how many dead letters were settled
pub record Settling : Type 0 where
  pub progress : Progress
  pub count : ℕ

abbrev pub settle_dead_by : Option Row → Settling → Settling
settle_dead_by None s = s
settle_dead_by (Some row) s =
    record {
      progress = set_state (move_row row (Gone gone.DeadLettered) s.progress.state) s.progress;
      count = s.count + 1;
    }

abbrev pub settle_dead : List DeadDone → Progress → Settling
settle_dead done p =
    fold
    (λ (now : Settling) (one : DeadDone). settle_dead_by (given_row one.number now.progress.state) now)
    (record { progress = p; count = 0 }) done

-- dead letters that their targets have confirmed are gone
unfoldable pub dead_settle : Term → List DeadDone → Progress → Acted
dead_settle term done p =
    if is_at_least_once p.state.args.strategy && nat_eq term.0 p.state.attached then
    (let settling = settle_dead done p in reply (answer.DeadSettled settling.count) settling.progress)
    else reply answer.Stale p

-- The table -------------------------------------------------------------------------------------------

-- a command's row of the table
unfoldable pub act : Index → Command → Progress → Acted
act index (Noop version) p = reply answer.Lead p
act index (Enqueue stamp origin message) p = enqueue index message p
act index (Get stamp) p = get p
act index (Subscribe stamp tag mode) p = subscribe (consumer_id stamp tag) mode p
act index (Cancel stamp tag) p = cancel (consumer_id stamp tag) p
act index (Credit stamp tag count credit drain) p = give_credit (consumer_id stamp tag) (count + credit) p
act index (Settle stamp tag ids) p = finish Settled (consumer_id stamp tag) ids p
act index (Return stamp tag ids) p = finish Returned (consumer_id stamp tag) ids p
act index (Discard stamp tag ids) p = finish Discarded (consumer_id stamp tag) ids p
act index (Purge stamp) p = purge p
act index (Down session) p = down session p
act index (DeadAttach term) p = dead_attach term p
act index (DeadSettle term done) p = dead_settle term done p
