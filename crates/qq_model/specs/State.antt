-- The state of a queue.
use Rattle.std.specs.Prelude.{ℕ, List, [], Bool, nat_le, ◌&&◌}
use Rattle.std.specs.List.{list_all}
use Rattle.qq_entry.specs.declared.queue.QueueArgs.{QueueArgs}
use Rattle.qq_entry.specs.declared.message.Message.{Message}
use Rattle.qq_base.specs.declared.memory.TheConstants.{NUMBER_END}
use Rattle.qq_model.specs.declared.place.Row.{Row}
use Rattle.qq_model.specs.declared.consumer.Consumer.{Consumer}
use Rattle.qq_model.specs.declared.session.OpenSession.{OpenSession}
use Rattle.qq_model.specs.declared.session.Worker.{Worker}

-- What a queue knows of sessions.
pub record Sessions : Type 0 where
  -- those that are open, in the order of their opening
  pub opened : List OpenSession
  -- the numbers of the clients' sessions that have ended, rising
  pub ended : List ℕ
  -- the greatest number of the dead-letter workers of each source queue, by rising owner
  pub workers : List Worker
  -- how many sessions were ever seen
  pub seen : ℕ

-- One row for each message that was ever enqueued, in the order of arrival, never removed; the messages
-- in the same order; the consumers in the order of joining; the sessions; and the counters from which
-- numbers are drawn. Each draw adds 1 to its counter and gives the new value.
pub record State : Type 0 where
  -- the queue's arguments, which stay
  pub args : QueueArgs
  -- the index of the last entry that was applied
  pub applied : ℕ
  -- how many messages have arrived
  pub arrivals : ℕ
  -- how many places at the back of the queue were given
  pub orders : ℕ
  -- how many places at the front, for messages that were returned under a delivery limit
  pub returns : ℕ
  -- how many messages have died and were kept
  pub deads : ℕ
  -- how many turns consumers were given
  pub turns : ℕ
  -- the greatest number of a dead message that the present worker was given
  pub given : ℕ
  -- the term of the dead-letter worker, 0 for none
  pub attached : ℕ
  pub rows : List Row
  pub messages : List Message
  pub consumers : List Consumer
  pub sessions : Sessions

-- a queue to which no entry was applied
abbrev pub empty_queue : QueueArgs → State
empty_queue args =
    record {
      args = args;
      applied = 0;
      arrivals = 0;
      orders = 0;
      returns = 0;
      deads = 0;
      turns = 0;
      given = 0;
      attached = 0;
      rows = [];
      messages = [];
      consumers = [];
      sessions = record { opened = []; ended = []; workers = []; seen = 0 };
    }

abbrev pub is_row_within : Row → Bool
is_row_within row = nat_le row.count NUMBER_END

abbrev pub is_consumer_within : Consumer → Bool
is_consumer_within consumer = nat_le consumer.next_id NUMBER_END && nat_le consumer.count NUMBER_END

abbrev pub is_session_within : OpenSession → Bool
is_session_within session = nat_le session.next NUMBER_END

-- no number has passed its end
abbrev pub is_within_ends : State → Bool
is_within_ends s =
    nat_le s.applied NUMBER_END && nat_le s.arrivals NUMBER_END
    && nat_le s.orders NUMBER_END && nat_le s.returns NUMBER_END
    && nat_le s.deads NUMBER_END && nat_le s.turns NUMBER_END
    && list_all is_row_within s.rows && list_all is_consumer_within s.consumers
    && list_all is_session_within s.sessions.opened
