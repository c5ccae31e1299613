-- What follows on each command: deliveries, the limits, and dead letters for the worker.
use Rattle.std.specs.Prelude.{ℕ, ◌+◌, ◌-◌, List, [], ◌∷◌, ◌++◌, Option, Some, None, Bool, true, false, ◌&&◌, nat_lt, nat_le, count_by, if◌then◌else◌}
use Rattle.qq_base.specs.declared.ids.ConsumerId.{ConsumerId}
use Rattle.qq_entry.specs.declared.audit.Effect.TheVariants.{Deliver, Offer}
use Rattle.qq_entry.specs.declared.message.Reason.TheVariants as reason
use Rattle.qq_entry.specs.declared.command.Command.{Command}
use Rattle.qq_entry.specs.declared.command.Command.TheVariants.{Credit}
use Rattle.qq_entry.specs.declared.command.Mode.{Mode}
use Rattle.qq_entry.specs.declared.command.Mode.TheVariants.{Prefetch, Link}
use Rattle.qq_entry.specs.declared.answer.Answer.{Answer}
use Rattle.qq_entry.specs.declared.answer.Answer.TheVariants.{Credited}
use Rattle.qq_model.specs.declared.TheConstants.{MOST_GIVEN}
use Rattle.qq_model.specs.declared.place.Place.{Place}
use Rattle.qq_model.specs.declared.place.Place.TheVariants.{Out, Dead}
use Rattle.qq_model.specs.declared.place.Row.{Row}
use Rattle.qq_model.specs.declared.consumer.Consumer.{Consumer}
use Rattle.qq_model.specs.State.{State}
use Rattle.qq_model.specs.Choice.{least_by, next_message, next_consumer}
use Rattle.qq_model.specs.Limits.{ready_count, dead_count, is_over_limit}
use Rattle.qq_model.specs.Changes.{Progress, while_next, put_row, put_consumer, consumer_of, message_of, delivery_of, die}
use Rattle.qq_entry.specs.Command.{consumer_id}
use Rattle.qq_model.specs.Commands.{Acted, reply, set_state}

-- Checkouts -------------------------------------------------------------------------------------------

-- link credit is used up, and counted as delivered (AMQP 1.0, section 2.6.7); prefetch follows from what is out
abbrev pub use_credit : Mode → Consumer → Consumer
use_credit (Prefetch prefetch) consumer = consumer
use_credit Link consumer = record consumer { credit = consumer.credit - 1; count = consumer.count + 1 }

-- a consumer that was served: its next delivery has the next id, and it waits behind all others
abbrev pub serve : ℕ → Consumer → Consumer
serve turn consumer = use_credit consumer.mode (record consumer { next_id = consumer.next_id + 1; turn = turn })

-- a message is delivered to a consumer
abbrev pub deliver : Row → Consumer → Progress → Progress
deliver row consumer p =
    record {
      state =
          record (p.state) {
            turns = p.state.turns + 1;
            rows = put_row (record row { place = Out consumer.id consumer.next_id }) p.state.rows;
            consumers = put_consumer (serve (p.state.turns + 1) consumer) p.state.consumers;
          };
      effects = p.effects ++ Deliver consumer.id (delivery_of p.state consumer.next_id row) ∷ [];
    }

abbrev pub deliver_by : Option Row → Option Consumer → Progress → Option Progress
deliver_by None consumer p = None
deliver_by (Some row) None p = None
deliver_by (Some row) (Some consumer) p = Some (deliver row consumer p)

-- the next message to the next consumer, where there are both
unfoldable pub check_out : Progress → Option Progress
check_out p =
    deliver_by (next_message p.state.rows)
    (next_consumer p.state.args.single_active p.state.rows p.state.consumers) p

-- while there is a choice, a message is delivered
unfoldable pub check_out_all : Progress → Progress
check_out_all p = while_next (ready_count p.state.rows) check_out p

-- Drain -----------------------------------------------------------------------------------------------

-- the credit that is left counts as delivered (AMQP 1.0, section 2.6.7, drain)
abbrev pub drain_credit : Consumer → State → State
drain_credit consumer s =
    record s {
      consumers = put_consumer (record consumer { credit = 0; count = consumer.count + consumer.credit }) s.consumers;
    }

abbrev pub drain_by : Option Consumer → Answer → Progress → Acted
drain_by None said p = reply said p
drain_by (Some consumer) said p = reply (Credited consumer.credit) (set_state (drain_credit consumer p.state) p)

-- whether credit was given
abbrev pub is_credited : Answer → Bool
is_credited (Credited n) = true
is_credited _ = false

abbrev pub drain : ConsumerId → Bool → Acted → Acted
drain id wanted acted =
    if wanted && is_credited acted.answer then
    drain_by (consumer_of id acted.progress.state.consumers) acted.answer acted.progress
    else acted

-- after the checkouts of a Credit with drain no credit is left
unfoldable pub drain_after : Command → Acted → Acted
drain_after (Credit stamp tag count credit wanted) acted = drain (consumer_id stamp tag) wanted acted
drain_after _ acted = acted

-- Limits ----------------------------------------------------------------------------------------------

abbrev pub drop_head_by : Option Row → Progress → Option Progress
drop_head_by None p = None
drop_head_by (Some row) p = Some (die reason.MaxLen row p)

-- the message at the front dies where the queue has grown past its limit (RabbitMQ, "Queue Length Limit",
-- `drop-head`)
unfoldable pub drop_head : Progress → Option Progress
drop_head p = if is_over_limit p.state.args p.state.rows then drop_head_by (next_message p.state.rows) p else None

-- while the queue has grown past its limit, the message at the front dies
unfoldable pub keep_limits : Progress → Progress
keep_limits p = while_next (ready_count p.state.rows) drop_head p

-- Dead giving -----------------------------------------------------------------------------------------

-- whether a place is dead, with a number up to this one
abbrev pub is_given : ℕ → Place → Bool
is_given given (Dead number reason) = nat_le number given
is_given given _ = false

-- how many dead letters the worker has under way
abbrev pub given_count : ℕ → List Row → ℕ
given_count given rows = count_by (λ (row : Row). is_given given row.place) rows

-- the number of a dead message that the worker wasn't given
abbrev pub dead_number : ℕ → Place → Option ℕ
dead_number given (Dead number reason) = if nat_lt given number then Some number else None
dead_number given _ = None

-- of all dead messages above what was given the one of least number
abbrev pub next_dead : ℕ → List Row → Option Row
next_dead given rows = least_by nat_lt (λ (row : Row). dead_number given row.place) rows

-- a dead message is offered to the worker
abbrev pub offer_at : Place → Row → Progress → Option Progress
offer_at (Dead number reason) row p =
    Some (record {
      state = record (p.state) { given = number };
      effects = p.effects ++ Offer number reason (message_of p.state.rows p.state.messages row) ∷ [];
    })
offer_at _ row p = None

abbrev pub offer_by : Option Row → Progress → Option Progress
offer_by None p = None
offer_by (Some row) p = offer_at row.place row p

-- the next dead message, where a worker is attached that has fewer than it may have under way
unfoldable pub give_dead : Progress → Option Progress
give_dead p =
    if nat_lt 0 p.state.attached && nat_lt (given_count p.state.given p.state.rows) MOST_GIVEN then
    offer_by (next_dead p.state.given p.state.rows) p
    else None

-- while there is one, a dead message is offered (RabbitMQ, "At-Least-Once Dead Lettering", the prefetch of the worker)
unfoldable pub give_all_dead : Progress → Progress
give_all_dead p = while_next (dead_count p.state.rows) give_dead p
