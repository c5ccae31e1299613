use Rattle.std.proofs.Common.{refl}
use Rattle.std.specs.Char.{encode_utf8}
use Rattle.std.specs.Str.{chars, is_utf8}
use Rattle.qq_fields.specs.Reading.{number_at, bytes_at, checked}
use Rattle.qq_amqp_wire.specs.Arguments.{short_str, long_str, short_str_at, long_str_at}
use Rattle.qq_amqp_wire.specs.Frames.{method_in}
use Rattle.qq_amqp_wire.specs.Rows.{arguments_at}
use Rattle.qq_amqp_wire.specs.Writing.{method_bytes}
use Rattle.qq_amqp_wire.proofs.worked.basic_methods_have_these_bytes.Goals as goal

pub returns-clause-basic_qos : goal.returns-clause-basic_qos
unfolding number_at bytes_at checked short_str long_str short_str_at long_str_at is_utf8 chars encode_utf8 method_in
    arguments_at method_bytes
returns-clause-basic_qos c = (refl, refl)

pub returns-clause-basic_qos_ok : goal.returns-clause-basic_qos_ok
unfolding number_at bytes_at checked short_str long_str short_str_at long_str_at is_utf8 chars encode_utf8 method_in
    arguments_at method_bytes
returns-clause-basic_qos_ok c = (refl, refl)

pub returns-clause-basic_consume : goal.returns-clause-basic_consume
unfolding number_at bytes_at checked short_str long_str short_str_at long_str_at is_utf8 chars encode_utf8 method_in
    arguments_at method_bytes
returns-clause-basic_consume c = (refl, refl)

pub returns-clause-basic_consume_ok : goal.returns-clause-basic_consume_ok
unfolding number_at bytes_at checked short_str long_str short_str_at long_str_at is_utf8 chars encode_utf8 method_in
    arguments_at method_bytes
returns-clause-basic_consume_ok c = (refl, refl)

pub returns-clause-basic_cancel : goal.returns-clause-basic_cancel
unfolding number_at bytes_at checked short_str long_str short_str_at long_str_at is_utf8 chars encode_utf8 method_in
    arguments_at method_bytes
returns-clause-basic_cancel c = (refl, refl)

pub returns-clause-basic_cancel_ok : goal.returns-clause-basic_cancel_ok
unfolding number_at bytes_at checked short_str long_str short_str_at long_str_at is_utf8 chars encode_utf8 method_in
    arguments_at method_bytes
returns-clause-basic_cancel_ok c = (refl, refl)

pub returns-clause-basic_publish : goal.returns-clause-basic_publish
unfolding number_at bytes_at checked short_str long_str short_str_at long_str_at is_utf8 chars encode_utf8 method_in
    arguments_at method_bytes
returns-clause-basic_publish c = (refl, refl)

pub returns-clause-basic_deliver : goal.returns-clause-basic_deliver
unfolding number_at bytes_at checked short_str long_str short_str_at long_str_at is_utf8 chars encode_utf8 method_in
    arguments_at method_bytes
returns-clause-basic_deliver c = (refl, refl)

pub returns-clause-basic_get : goal.returns-clause-basic_get
unfolding number_at bytes_at checked short_str long_str short_str_at long_str_at is_utf8 chars encode_utf8 method_in
    arguments_at method_bytes
returns-clause-basic_get c = (refl, refl)

pub returns-clause-basic_get_ok : goal.returns-clause-basic_get_ok
unfolding number_at bytes_at checked short_str long_str short_str_at long_str_at is_utf8 chars encode_utf8 method_in
    arguments_at method_bytes
returns-clause-basic_get_ok c = (refl, refl)

pub returns-clause-basic_get_empty : goal.returns-clause-basic_get_empty
unfolding number_at bytes_at checked short_str long_str short_str_at long_str_at is_utf8 chars encode_utf8 method_in
    arguments_at method_bytes
returns-clause-basic_get_empty c = (refl, refl)

pub returns-clause-basic_ack : goal.returns-clause-basic_ack
unfolding number_at bytes_at checked short_str long_str short_str_at long_str_at is_utf8 chars encode_utf8 method_in
    arguments_at method_bytes
returns-clause-basic_ack c = (refl, refl)

pub returns-clause-basic_reject : goal.returns-clause-basic_reject
unfolding number_at bytes_at checked short_str long_str short_str_at long_str_at is_utf8 chars encode_utf8 method_in
    arguments_at method_bytes
returns-clause-basic_reject c = (refl, refl)

pub returns-clause-basic_nack : goal.returns-clause-basic_nack
unfolding number_at bytes_at checked short_str long_str short_str_at long_str_at is_utf8 chars encode_utf8 method_in
    arguments_at method_bytes
returns-clause-basic_nack c = (refl, refl)
