-- The methods: of each its class, its number, its arguments in their order, and what is made of those that aren't
-- reserved (AMQP 0-9-1, section 1.8 and the classes after it). A bit that is reserved has a byte of its own, so it is
-- a reserved octet.
use Rattle.std.specs.Prelude.{◌==◌, ℕ, List, [], ◌∷◌, Option, find, if◌then◌else◌}
use Rattle.qq_amqp_wire.specs.Arguments.{Octet, Short, Long, LongLong, ShortStr, LongStr, Argument, Given, Reserved, Bits, OfValues, Values, Field, made_at}
use Rattle.qq_fields.specs.Reading.{◌>>=◌, required}
use Rattle.qq_amqp_wire.specs.declared.fault.WireFault.TheVariants.{BadMethod}
use Rattle.qq_amqp_wire.specs.declared.method.Method.{Method}
use Rattle.qq_amqp_wire.specs.declared.method.Method.TheVariants.{ConnectionStart, ConnectionStartOk, ConnectionTune, ConnectionTuneOk, ConnectionOpen, ConnectionOpenOk, ConnectionClose, ConnectionCloseOk, ChannelOpen, ChannelOpenOk, ChannelClose, ChannelCloseOk, QueueDeclare, QueueDeclareOk, QueuePurge, QueuePurgeOk, BasicQos, BasicQosOk, BasicConsume, BasicConsumeOk, BasicCancel, BasicCancelOk, BasicPublish, BasicDeliver, BasicGet, BasicGetOk, BasicGetEmpty, BasicAck, BasicReject, BasicNack, ConfirmSelect, ConfirmSelectOk}

pub record Row : Type 0 where
  pub class : ℕ
  pub number : ℕ
  pub arguments : List Argument
  pub make : OfValues Method arguments

-- ---- connection

abbrev pub connection_start : Row
connection_start = record {
  class = 10;
  number = 10;
  arguments = Given Octet ∷ Given Octet ∷ Given LongStr ∷ Given LongStr ∷ Given LongStr ∷ [];
  make = ConnectionStart;
}

abbrev pub connection_start_ok : Row
connection_start_ok = record {
  class = 10;
  number = 11;
  arguments = Given LongStr ∷ Given ShortStr ∷ Given LongStr ∷ Given ShortStr ∷ [];
  make = ConnectionStartOk;
}

abbrev pub connection_tune : Row
connection_tune = record {
  class = 10;
  number = 30;
  arguments = Given Short ∷ Given Long ∷ Given Short ∷ [];
  make = ConnectionTune;
}

abbrev pub connection_tune_ok : Row
connection_tune_ok = record {
  class = 10;
  number = 31;
  arguments = Given Short ∷ Given Long ∷ Given Short ∷ [];
  make = ConnectionTuneOk;
}

abbrev pub connection_open : Row
connection_open = record {
  class = 10;
  number = 40;
  arguments = Given ShortStr ∷ Reserved ShortStr ∷ Reserved Octet ∷ [];
  make = ConnectionOpen;
}

abbrev pub connection_open_ok : Row
connection_open_ok = record { class = 10; number = 41; arguments = Reserved ShortStr ∷ []; make = ConnectionOpenOk }

abbrev pub connection_close : Row
connection_close = record {
  class = 10;
  number = 50;
  arguments = Given Short ∷ Given ShortStr ∷ Given Short ∷ Given Short ∷ [];
  make = ConnectionClose;
}

abbrev pub connection_close_ok : Row
connection_close_ok = record { class = 10; number = 51; arguments = []; make = ConnectionCloseOk }

-- ---- channel

abbrev pub channel_open : Row
channel_open = record { class = 20; number = 10; arguments = Reserved ShortStr ∷ []; make = ChannelOpen }

abbrev pub channel_open_ok : Row
channel_open_ok = record { class = 20; number = 11; arguments = Reserved LongStr ∷ []; make = ChannelOpenOk }

abbrev pub channel_close : Row
channel_close = record {
  class = 20;
  number = 40;
  arguments = Given Short ∷ Given ShortStr ∷ Given Short ∷ Given Short ∷ [];
  make = ChannelClose;
}

abbrev pub channel_close_ok : Row
channel_close_ok = record { class = 20; number = 41; arguments = []; make = ChannelCloseOk }

-- ---- queue

abbrev pub queue_declare : Row
queue_declare = record {
  class = 50;
  number = 10;
  arguments = Reserved Short ∷ Given ShortStr ∷ Bits 5 ∷ Given LongStr ∷ [];
  make = QueueDeclare;
}

abbrev pub queue_declare_ok : Row
queue_declare_ok = record {
  class = 50;
  number = 11;
  arguments = Given ShortStr ∷ Given Long ∷ Given Long ∷ [];
  make = QueueDeclareOk;
}

abbrev pub queue_purge : Row
queue_purge = record {
  class = 50;
  number = 30;
  arguments = Reserved Short ∷ Given ShortStr ∷ Bits 1 ∷ [];
  make = QueuePurge;
}

abbrev pub queue_purge_ok : Row
queue_purge_ok = record { class = 50; number = 31; arguments = Given Long ∷ []; make = QueuePurgeOk }

-- ---- basic

abbrev pub basic_qos : Row
basic_qos = record { class = 60; number = 10; arguments = Given Long ∷ Given Short ∷ Bits 1 ∷ []; make = BasicQos }

abbrev pub basic_qos_ok : Row
basic_qos_ok = record { class = 60; number = 11; arguments = []; make = BasicQosOk }

abbrev pub basic_consume : Row
basic_consume = record {
  class = 60;
  number = 20;
  arguments = Reserved Short ∷ Given ShortStr ∷ Given ShortStr ∷ Bits 4 ∷ Given LongStr ∷ [];
  make = BasicConsume;
}

abbrev pub basic_consume_ok : Row
basic_consume_ok = record { class = 60; number = 21; arguments = Given ShortStr ∷ []; make = BasicConsumeOk }

abbrev pub basic_cancel : Row
basic_cancel = record { class = 60; number = 30; arguments = Given ShortStr ∷ Bits 1 ∷ []; make = BasicCancel }

abbrev pub basic_cancel_ok : Row
basic_cancel_ok = record { class = 60; number = 31; arguments = Given ShortStr ∷ []; make = BasicCancelOk }

abbrev pub basic_publish : Row
basic_publish = record {
  class = 60;
  number = 40;
  arguments = Reserved Short ∷ Given ShortStr ∷ Given ShortStr ∷ Bits 2 ∷ [];
  make = BasicPublish;
}

abbrev pub basic_deliver : Row
basic_deliver = record {
  class = 60;
  number = 60;
  arguments = Given ShortStr ∷ Given LongLong ∷ Bits 1 ∷ Given ShortStr ∷ Given ShortStr ∷ [];
  make = BasicDeliver;
}

abbrev pub basic_get : Row
basic_get = record {
  class = 60;
  number = 70;
  arguments = Reserved Short ∷ Given ShortStr ∷ Bits 1 ∷ [];
  make = BasicGet;
}

abbrev pub basic_get_ok : Row
basic_get_ok = record {
  class = 60;
  number = 71;
  arguments = Given LongLong ∷ Bits 1 ∷ Given ShortStr ∷ Given ShortStr ∷ Given Long ∷ [];
  make = BasicGetOk;
}

abbrev pub basic_get_empty : Row
basic_get_empty = record { class = 60; number = 72; arguments = Reserved ShortStr ∷ []; make = BasicGetEmpty }

abbrev pub basic_ack : Row
basic_ack = record { class = 60; number = 80; arguments = Given LongLong ∷ Bits 1 ∷ []; make = BasicAck }

abbrev pub basic_reject : Row
basic_reject = record { class = 60; number = 90; arguments = Given LongLong ∷ Bits 1 ∷ []; make = BasicReject }

abbrev pub basic_nack : Row
basic_nack = record { class = 60; number = 120; arguments = Given LongLong ∷ Bits 2 ∷ []; make = BasicNack }

-- ---- confirm

abbrev pub confirm_select : Row
confirm_select = record { class = 85; number = 10; arguments = Bits 1 ∷ []; make = ConfirmSelect }

abbrev pub confirm_select_ok : Row
confirm_select_ok = record { class = 85; number = 11; arguments = []; make = ConfirmSelectOk }

-- ---- the table

abbrev pub connection_rows : List Row
connection_rows = connection_start ∷ connection_start_ok ∷ connection_tune ∷ connection_tune_ok ∷ connection_open
    ∷ connection_open_ok ∷ connection_close ∷ connection_close_ok ∷ []

abbrev pub channel_rows : List Row
channel_rows = channel_open ∷ channel_open_ok ∷ channel_close ∷ channel_close_ok ∷ []

abbrev pub queue_rows : List Row
queue_rows = queue_declare ∷ queue_declare_ok ∷ queue_purge ∷ queue_purge_ok ∷ []

abbrev pub basic_rows : List Row
basic_rows = basic_qos ∷ basic_qos_ok ∷ basic_consume ∷ basic_consume_ok ∷ basic_cancel ∷ basic_cancel_ok
    ∷ basic_publish ∷ basic_deliver ∷ basic_get ∷ basic_get_ok ∷ basic_get_empty ∷ basic_ack ∷ basic_reject
    ∷ basic_nack ∷ []

abbrev pub confirm_rows : List Row
confirm_rows = confirm_select ∷ confirm_select_ok ∷ []

-- the methods of a class
abbrev pub rows_of : ℕ → List Row
rows_of class =
    if class == 10 then connection_rows
    else if class == 20 then channel_rows
    else if class == 50 then queue_rows
    else if class == 60 then basic_rows
    else if class == 85 then confirm_rows
    else []

-- the method with these numbers
abbrev pub row_at : ℕ → ℕ → Option Row
row_at class number = find (λ row. number == row.number) (rows_of class)

-- ---- what a method is

abbrev pub row_of : Method → Row
row_of (ConnectionStart _ _ _ _ _) = connection_start
row_of (ConnectionStartOk _ _ _ _) = connection_start_ok
row_of (ConnectionTune _ _ _) = connection_tune
row_of (ConnectionTuneOk _ _ _) = connection_tune_ok
row_of (ConnectionOpen _) = connection_open
row_of ConnectionOpenOk = connection_open_ok
row_of (ConnectionClose _ _ _ _) = connection_close
row_of ConnectionCloseOk = connection_close_ok
row_of ChannelOpen = channel_open
row_of ChannelOpenOk = channel_open_ok
row_of (ChannelClose _ _ _ _) = channel_close
row_of ChannelCloseOk = channel_close_ok
row_of (QueueDeclare _ _ _ _ _ _ _) = queue_declare
row_of (QueueDeclareOk _ _ _) = queue_declare_ok
row_of (QueuePurge _ _) = queue_purge
row_of (QueuePurgeOk _) = queue_purge_ok
row_of (BasicQos _ _ _) = basic_qos
row_of BasicQosOk = basic_qos_ok
row_of (BasicConsume _ _ _ _ _ _ _) = basic_consume
row_of (BasicConsumeOk _) = basic_consume_ok
row_of (BasicCancel _ _) = basic_cancel
row_of (BasicCancelOk _) = basic_cancel_ok
row_of (BasicPublish _ _ _ _) = basic_publish
row_of (BasicDeliver _ _ _ _ _) = basic_deliver
row_of (BasicGet _ _) = basic_get
row_of (BasicGetOk _ _ _ _ _) = basic_get_ok
row_of BasicGetEmpty = basic_get_empty
row_of (BasicAck _ _) = basic_ack
row_of (BasicReject _ _) = basic_reject
row_of (BasicNack _ _ _) = basic_nack
row_of (ConfirmSelect _) = confirm_select
row_of ConfirmSelectOk = confirm_select_ok

-- its values, in the order of its row
abbrev pub values_in : (m : Method) → Values (row_of m).arguments
values_in (ConnectionStart major minor properties mechanisms locales) = (major, (minor, (properties, (mechanisms, (locales, tt)))))
values_in (ConnectionStartOk properties mechanism response locale) = (properties, (mechanism, (response, (locale, tt))))
values_in (ConnectionTune channel_max frame_max heartbeat) = (channel_max, (frame_max, (heartbeat, tt)))
values_in (ConnectionTuneOk channel_max frame_max heartbeat) = (channel_max, (frame_max, (heartbeat, tt)))
values_in (ConnectionOpen virtual_host) = (virtual_host, tt)
values_in ConnectionOpenOk = tt
values_in (ConnectionClose code text class method) = (code, (text, (class, (method, tt))))
values_in ConnectionCloseOk = tt
values_in ChannelOpen = tt
values_in ChannelOpenOk = tt
values_in (ChannelClose code text class method) = (code, (text, (class, (method, tt))))
values_in ChannelCloseOk = tt
values_in (QueueDeclare queue passive durable exclusive auto_delete no_wait arguments) = (queue, ((passive, (durable, (exclusive, (auto_delete, (no_wait, tt))))), (arguments, tt)))
values_in (QueueDeclareOk queue messages consumers) = (queue, (messages, (consumers, tt)))
values_in (QueuePurge queue no_wait) = (queue, ((no_wait, tt), tt))
values_in (QueuePurgeOk messages) = (messages, tt)
values_in (BasicQos size count global) = (size, (count, ((global, tt), tt)))
values_in BasicQosOk = tt
values_in (BasicConsume queue tag no_local no_ack exclusive no_wait arguments) = (queue, (tag, ((no_local, (no_ack, (exclusive, (no_wait, tt)))), (arguments, tt))))
values_in (BasicConsumeOk tag) = (tag, tt)
values_in (BasicCancel tag no_wait) = (tag, ((no_wait, tt), tt))
values_in (BasicCancelOk tag) = (tag, tt)
values_in (BasicPublish exchange key mandatory immediate) = (exchange, (key, ((mandatory, (immediate, tt)), tt)))
values_in (BasicDeliver consumer tag redelivered exchange key) = (consumer, (tag, ((redelivered, tt), (exchange, (key, tt)))))
values_in (BasicGet queue no_ack) = (queue, ((no_ack, tt), tt))
values_in (BasicGetOk tag redelivered exchange key messages) = (tag, ((redelivered, tt), (exchange, (key, (messages, tt)))))
values_in BasicGetEmpty = tt
values_in (BasicAck tag multiple) = (tag, ((multiple, tt), tt))
values_in (BasicReject tag requeue) = (tag, ((requeue, tt), tt))
values_in (BasicNack tag multiple requeue) = (tag, ((multiple, (requeue, tt)), tt))
values_in (ConfirmSelect no_wait) = ((no_wait, tt), tt)
values_in ConfirmSelectOk = tt

-- ---- reading

-- the method of a row, whose arguments stand at the front of the bytes
abbrev pub made_by : Row → List ℕ → Field Method
made_by row bytes = made_at row.arguments row.make bytes

-- the method with these numbers, whose arguments stand at the front of the bytes
unfoldable pub arguments_at : ℕ → ℕ → List ℕ → Field Method
arguments_at class number bytes = do
  row ← required (BadMethod class number) (row_at class number)
  made_by row bytes
