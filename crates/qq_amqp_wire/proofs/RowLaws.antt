-- The table of methods: each method is made by the row that its numbers have, and what a row makes is of that row.
use Rattle.std.proofs.Common.{◌≡◌, ℕ, ◌^◌, ◌<◌, true, cond, eqb, List, [], ◌++◌, Some, refl, sym, subst, lit<}
use Rattle.std.specs.Prelude.{◌==◌, nat_le}
use Rattle.std.specs.List.{AllByRecursion}
use Rattle.std.proofs.lemmas.Bool.{cond_both, eqb-true}
use Rattle.qq_base.proofs.Lists.{AllByRecursion-in, find-in}
use Rattle.qq_fields.specs.Writing.{u16}
use Rattle.qq_amqp_wire.specs.Arguments.{Parts, ArePartsInRange, text_of, values_of, at_values}
use Rattle.qq_amqp_wire.specs.Grammar.{SpellsMethod}
use Rattle.qq_amqp_wire.specs.Rows.{Row, connection_start, connection_start_ok, connection_tune, connection_tune_ok, connection_open, connection_open_ok, connection_close, connection_close_ok, channel_open, channel_open_ok, channel_close, channel_close_ok, queue_declare, queue_declare_ok, queue_purge, queue_purge_ok, basic_qos, basic_qos_ok, basic_consume, basic_consume_ok, basic_cancel, basic_cancel_ok, basic_publish, basic_deliver, basic_get, basic_get_ok, basic_get_empty, basic_ack, basic_reject, basic_nack, confirm_select, confirm_select_ok, connection_rows, channel_rows, queue_rows, basic_rows, confirm_rows, rows_of, row_at, row_of, values_in}
use Rattle.qq_amqp_wire.specs.declared.method.Method.{Method}
use Rattle.qq_amqp_wire.specs.declared.method.Method.TheVariants.{ConnectionStart, ConnectionStartOk, ConnectionTune, ConnectionTuneOk, ConnectionOpen, ConnectionOpenOk, ConnectionClose, ConnectionCloseOk, ChannelOpen, ChannelOpenOk, ChannelClose, ChannelCloseOk, QueueDeclare, QueueDeclareOk, QueuePurge, QueuePurgeOk, BasicQos, BasicQosOk, BasicConsume, BasicConsumeOk, BasicCancel, BasicCancelOk, BasicPublish, BasicDeliver, BasicGet, BasicGetOk, BasicGetEmpty, BasicAck, BasicReject, BasicNack, ConfirmSelect, ConfirmSelectOk}
use Rattle.qq_amqp_wire.proofs.ArgumentLaws.{have_bytes, most_of}

-- a method's row
pub record HasRow (m : Method) : Type 0 where
  pub found : row_at (row_of m).class (row_of m).number ≡ Some (row_of m)
  pub made : at_values (row_of m).arguments (row_of m).make (values_in m) ≡ m
  pub numbers : ((row_of m).class < 2 ^ 16) × ((row_of m).number < 2 ^ 16)
  pub bytes : have_bytes (row_of m).arguments ≡ true
  pub few : nat_le (most_of (row_of m).arguments) 4096 ≡ true

pub has_row : (m : Method) → HasRow m
has_row (ConnectionStart major minor properties mechanisms locales) = record { found = refl; made = refl; numbers = (lit< tt, lit< tt); bytes = refl; few = refl }
has_row (ConnectionStartOk properties mechanism response locale) = record { found = refl; made = refl; numbers = (lit< tt, lit< tt); bytes = refl; few = refl }
has_row (ConnectionTune channel_max frame_max heartbeat) = record { found = refl; made = refl; numbers = (lit< tt, lit< tt); bytes = refl; few = refl }
has_row (ConnectionTuneOk channel_max frame_max heartbeat) = record { found = refl; made = refl; numbers = (lit< tt, lit< tt); bytes = refl; few = refl }
has_row (ConnectionOpen virtual_host) = record { found = refl; made = refl; numbers = (lit< tt, lit< tt); bytes = refl; few = refl }
has_row ConnectionOpenOk = record { found = refl; made = refl; numbers = (lit< tt, lit< tt); bytes = refl; few = refl }
has_row (ConnectionClose code text class method) = record { found = refl; made = refl; numbers = (lit< tt, lit< tt); bytes = refl; few = refl }
has_row ConnectionCloseOk = record { found = refl; made = refl; numbers = (lit< tt, lit< tt); bytes = refl; few = refl }
has_row ChannelOpen = record { found = refl; made = refl; numbers = (lit< tt, lit< tt); bytes = refl; few = refl }
has_row ChannelOpenOk = record { found = refl; made = refl; numbers = (lit< tt, lit< tt); bytes = refl; few = refl }
has_row (ChannelClose code text class method) = record { found = refl; made = refl; numbers = (lit< tt, lit< tt); bytes = refl; few = refl }
has_row ChannelCloseOk = record { found = refl; made = refl; numbers = (lit< tt, lit< tt); bytes = refl; few = refl }
has_row (QueueDeclare queue passive durable exclusive auto_delete no_wait arguments) = record { found = refl; made = refl; numbers = (lit< tt, lit< tt); bytes = refl; few = refl }
has_row (QueueDeclareOk queue messages consumers) = record { found = refl; made = refl; numbers = (lit< tt, lit< tt); bytes = refl; few = refl }
has_row (QueuePurge queue no_wait) = record { found = refl; made = refl; numbers = (lit< tt, lit< tt); bytes = refl; few = refl }
has_row (QueuePurgeOk messages) = record { found = refl; made = refl; numbers = (lit< tt, lit< tt); bytes = refl; few = refl }
has_row (BasicQos size count global) = record { found = refl; made = refl; numbers = (lit< tt, lit< tt); bytes = refl; few = refl }
has_row BasicQosOk = record { found = refl; made = refl; numbers = (lit< tt, lit< tt); bytes = refl; few = refl }
has_row (BasicConsume queue tag no_local no_ack exclusive no_wait arguments) = record { found = refl; made = refl; numbers = (lit< tt, lit< tt); bytes = refl; few = refl }
has_row (BasicConsumeOk tag) = record { found = refl; made = refl; numbers = (lit< tt, lit< tt); bytes = refl; few = refl }
has_row (BasicCancel tag no_wait) = record { found = refl; made = refl; numbers = (lit< tt, lit< tt); bytes = refl; few = refl }
has_row (BasicCancelOk tag) = record { found = refl; made = refl; numbers = (lit< tt, lit< tt); bytes = refl; few = refl }
has_row (BasicPublish exchange key mandatory immediate) = record { found = refl; made = refl; numbers = (lit< tt, lit< tt); bytes = refl; few = refl }
has_row (BasicDeliver consumer tag redelivered exchange key) = record { found = refl; made = refl; numbers = (lit< tt, lit< tt); bytes = refl; few = refl }
has_row (BasicGet queue no_ack) = record { found = refl; made = refl; numbers = (lit< tt, lit< tt); bytes = refl; few = refl }
has_row (BasicGetOk tag redelivered exchange key messages) = record { found = refl; made = refl; numbers = (lit< tt, lit< tt); bytes = refl; few = refl }
has_row BasicGetEmpty = record { found = refl; made = refl; numbers = (lit< tt, lit< tt); bytes = refl; few = refl }
has_row (BasicAck tag multiple) = record { found = refl; made = refl; numbers = (lit< tt, lit< tt); bytes = refl; few = refl }
has_row (BasicReject tag requeue) = record { found = refl; made = refl; numbers = (lit< tt, lit< tt); bytes = refl; few = refl }
has_row (BasicNack tag multiple requeue) = record { found = refl; made = refl; numbers = (lit< tt, lit< tt); bytes = refl; few = refl }
has_row (ConfirmSelect no_wait) = record { found = refl; made = refl; numbers = (lit< tt, lit< tt); bytes = refl; few = refl }
has_row ConfirmSelectOk = record { found = refl; made = refl; numbers = (lit< tt, lit< tt); bytes = refl; few = refl }

-- what a row makes has the spelling that it is made of
pub record Makes (class : ℕ) (r : Row) : Type 0 where
  pub class_is : r.class ≡ class
  pub spells : (parts : Parts r.arguments) → ArePartsInRange r.arguments parts → (payload : List ℕ)
      → payload ≡ u16 r.class ++ (u16 r.number ++ text_of r.arguments parts)
      → SpellsMethod (at_values r.arguments r.make (values_of r.arguments parts)) payload

connection_start_makes : Makes 10 connection_start
connection_start_makes = record {
  class_is = refl;
  spells = λ parts range payload e. record { parts = parts; range = range; values = refl; is = e };
}

connection_start_ok_makes : Makes 10 connection_start_ok
connection_start_ok_makes = record {
  class_is = refl;
  spells = λ parts range payload e. record { parts = parts; range = range; values = refl; is = e };
}

connection_tune_makes : Makes 10 connection_tune
connection_tune_makes = record {
  class_is = refl;
  spells = λ parts range payload e. record { parts = parts; range = range; values = refl; is = e };
}

connection_tune_ok_makes : Makes 10 connection_tune_ok
connection_tune_ok_makes = record {
  class_is = refl;
  spells = λ parts range payload e. record { parts = parts; range = range; values = refl; is = e };
}

connection_open_makes : Makes 10 connection_open
connection_open_makes = record {
  class_is = refl;
  spells = λ parts range payload e. record { parts = parts; range = range; values = refl; is = e };
}

connection_open_ok_makes : Makes 10 connection_open_ok
connection_open_ok_makes = record {
  class_is = refl;
  spells = λ parts range payload e. record { parts = parts; range = range; values = refl; is = e };
}

connection_close_makes : Makes 10 connection_close
connection_close_makes = record {
  class_is = refl;
  spells = λ parts range payload e. record { parts = parts; range = range; values = refl; is = e };
}

connection_close_ok_makes : Makes 10 connection_close_ok
connection_close_ok_makes = record {
  class_is = refl;
  spells = λ parts range payload e. record { parts = parts; range = range; values = refl; is = e };
}

connection_make : AllByRecursion (Makes 10) connection_rows
connection_make = (
  connection_start_makes,
  (
    connection_start_ok_makes,
    (
      connection_tune_makes,
      (
        connection_tune_ok_makes,
        (
          connection_open_makes,
          (
            connection_open_ok_makes,
            (
              connection_close_makes,
              (
                connection_close_ok_makes,
                tt,
              ),
            ),
          ),
        ),
      ),
    ),
  ),
)

channel_open_makes : Makes 20 channel_open
channel_open_makes = record {
  class_is = refl;
  spells = λ parts range payload e. record { parts = parts; range = range; values = refl; is = e };
}

channel_open_ok_makes : Makes 20 channel_open_ok
channel_open_ok_makes = record {
  class_is = refl;
  spells = λ parts range payload e. record { parts = parts; range = range; values = refl; is = e };
}

channel_close_makes : Makes 20 channel_close
channel_close_makes = record {
  class_is = refl;
  spells = λ parts range payload e. record { parts = parts; range = range; values = refl; is = e };
}

channel_close_ok_makes : Makes 20 channel_close_ok
channel_close_ok_makes = record {
  class_is = refl;
  spells = λ parts range payload e. record { parts = parts; range = range; values = refl; is = e };
}

channel_make : AllByRecursion (Makes 20) channel_rows
channel_make =
    (channel_open_makes, (channel_open_ok_makes, (channel_close_makes, (channel_close_ok_makes, tt))))

queue_declare_makes : Makes 50 queue_declare
queue_declare_makes = record {
  class_is = refl;
  spells = λ parts range payload e. record { parts = parts; range = range; values = refl; is = e };
}

queue_declare_ok_makes : Makes 50 queue_declare_ok
queue_declare_ok_makes = record {
  class_is = refl;
  spells = λ parts range payload e. record { parts = parts; range = range; values = refl; is = e };
}

queue_purge_makes : Makes 50 queue_purge
queue_purge_makes = record {
  class_is = refl;
  spells = λ parts range payload e. record { parts = parts; range = range; values = refl; is = e };
}

queue_purge_ok_makes : Makes 50 queue_purge_ok
queue_purge_ok_makes = record {
  class_is = refl;
  spells = λ parts range payload e. record { parts = parts; range = range; values = refl; is = e };
}

queue_make : AllByRecursion (Makes 50) queue_rows
queue_make =
    (queue_declare_makes, (queue_declare_ok_makes, (queue_purge_makes, (queue_purge_ok_makes, tt))))

basic_qos_makes : Makes 60 basic_qos
basic_qos_makes = record {
  class_is = refl;
  spells = λ parts range payload e. record { parts = parts; range = range; values = refl; is = e };
}

basic_qos_ok_makes : Makes 60 basic_qos_ok
basic_qos_ok_makes = record {
  class_is = refl;
  spells = λ parts range payload e. record { parts = parts; range = range; values = refl; is = e };
}

basic_consume_makes : Makes 60 basic_consume
basic_consume_makes = record {
  class_is = refl;
  spells = λ parts range payload e. record { parts = parts; range = range; values = refl; is = e };
}

basic_consume_ok_makes : Makes 60 basic_consume_ok
basic_consume_ok_makes = record {
  class_is = refl;
  spells = λ parts range payload e. record { parts = parts; range = range; values = refl; is = e };
}

basic_cancel_makes : Makes 60 basic_cancel
basic_cancel_makes = record {
  class_is = refl;
  spells = λ parts range payload e. record { parts = parts; range = range; values = refl; is = e };
}

basic_cancel_ok_makes : Makes 60 basic_cancel_ok
basic_cancel_ok_makes = record {
  class_is = refl;
  spells = λ parts range payload e. record { parts = parts; range = range; values = refl; is = e };
}

basic_publish_makes : Makes 60 basic_publish
basic_publish_makes = record {
  class_is = refl;
  spells = λ parts range payload e. record { parts = parts; range = range; values = refl; is = e };
}

basic_deliver_makes : Makes 60 basic_deliver
basic_deliver_makes = record {
  class_is = refl;
  spells = λ parts range payload e. record { parts = parts; range = range; values = refl; is = e };
}

basic_get_makes : Makes 60 basic_get
basic_get_makes = record {
  class_is = refl;
  spells = λ parts range payload e. record { parts = parts; range = range; values = refl; is = e };
}

basic_get_ok_makes : Makes 60 basic_get_ok
basic_get_ok_makes = record {
  class_is = refl;
  spells = λ parts range payload e. record { parts = parts; range = range; values = refl; is = e };
}

basic_get_empty_makes : Makes 60 basic_get_empty
basic_get_empty_makes = record {
  class_is = refl;
  spells = λ parts range payload e. record { parts = parts; range = range; values = refl; is = e };
}

basic_ack_makes : Makes 60 basic_ack
basic_ack_makes = record {
  class_is = refl;
  spells = λ parts range payload e. record { parts = parts; range = range; values = refl; is = e };
}

basic_reject_makes : Makes 60 basic_reject
basic_reject_makes = record {
  class_is = refl;
  spells = λ parts range payload e. record { parts = parts; range = range; values = refl; is = e };
}

basic_nack_makes : Makes 60 basic_nack
basic_nack_makes = record {
  class_is = refl;
  spells = λ parts range payload e. record { parts = parts; range = range; values = refl; is = e };
}

basic_make : AllByRecursion (Makes 60) basic_rows
basic_make = (
  basic_qos_makes,
  (
    basic_qos_ok_makes,
    (
      basic_consume_makes,
      (
        basic_consume_ok_makes,
        (
          basic_cancel_makes,
          (
            basic_cancel_ok_makes,
            (
              basic_publish_makes,
              (
                basic_deliver_makes,
                (
                  basic_get_makes,
                  (
                    basic_get_ok_makes,
                    (basic_get_empty_makes, (basic_ack_makes, (basic_reject_makes, (basic_nack_makes, tt)))),
                  ),
                ),
              ),
            ),
          ),
        ),
      ),
    ),
  ),
)

confirm_select_makes : Makes 85 confirm_select
confirm_select_makes = record {
  class_is = refl;
  spells = λ parts range payload e. record { parts = parts; range = range; values = refl; is = e };
}

confirm_select_ok_makes : Makes 85 confirm_select_ok
confirm_select_ok_makes = record {
  class_is = refl;
  spells = λ parts range payload e. record { parts = parts; range = range; values = refl; is = e };
}

confirm_make : AllByRecursion (Makes 85) confirm_rows
confirm_make =
    (confirm_select_makes, (confirm_select_ok_makes, tt))

of_class : (class k : ℕ) (rows others : List Row) → AllByRecursion (Makes k) rows
    → AllByRecursion (Makes class) others → AllByRecursion (Makes class) (cond (eqb class k) rows others)
of_class class k rows others first second =
    cond_both (eqb class k) rows others (AllByRecursion (Makes class))
    (λ is. subst (λ (c : ℕ). AllByRecursion (Makes c) rows) (sym (eqb-true class k is)) first) (λ _. second)

rows_make : (class : ℕ) → AllByRecursion (Makes class) (rows_of class)
rows_make class =
    of_class class 10 connection_rows _ connection_make
    (of_class class 20 channel_rows _ channel_make
    (of_class class 50 queue_rows _ queue_make
    (of_class class 60 basic_rows _ basic_make
    (of_class class 85 confirm_rows [] confirm_make tt))))

-- the row with these numbers
pub record IsRow (class number : ℕ) (r : Row) : Type 0 where
  pub number_is : number ≡ r.number
  pub makes : Makes class r

pub is_row : (class number : ℕ) (r : Row) → row_at class number ≡ Some r → IsRow class number r
is_row class number r e =
    let found = find-in (λ row. number == row.number) (rows_of class) r e in record {
      number_is = eqb-true number r.number found.1;
      makes = AllByRecursion-in (Makes class) r (rows_of class) (rows_make class) found.0;
    }
