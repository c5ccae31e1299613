use Rattle.std.proofs.Common.{refl}
use Rattle.std.specs.Char.{encode_utf8}
use Rattle.std.specs.Str.{chars, is_utf8}
use Rattle.qq_fields.specs.Reading.{number_at, bytes_at, checked}
use Rattle.qq_amqp_wire.specs.Arguments.{short_str, long_str, short_str_at, long_str_at}
use Rattle.qq_amqp_wire.specs.Frames.{method_in}
use Rattle.qq_amqp_wire.specs.Rows.{arguments_at}
use Rattle.qq_amqp_wire.specs.Writing.{method_bytes}
use Rattle.qq_amqp_wire.proofs.worked.channel_and_queue_methods_have_these_bytes.Goals as goal

pub returns-clause-channel_open : goal.returns-clause-channel_open
unfolding number_at bytes_at checked short_str long_str short_str_at long_str_at is_utf8 chars encode_utf8 method_in
    arguments_at method_bytes
returns-clause-channel_open c = (refl, refl)

pub returns-clause-channel_open_ok : goal.returns-clause-channel_open_ok
unfolding number_at bytes_at checked short_str long_str short_str_at long_str_at is_utf8 chars encode_utf8 method_in
    arguments_at method_bytes
returns-clause-channel_open_ok c = (refl, refl)

pub returns-clause-channel_close : goal.returns-clause-channel_close
unfolding number_at bytes_at checked short_str long_str short_str_at long_str_at is_utf8 chars encode_utf8 method_in
    arguments_at method_bytes
returns-clause-channel_close c = (refl, refl)

pub returns-clause-channel_close_ok : goal.returns-clause-channel_close_ok
unfolding number_at bytes_at checked short_str long_str short_str_at long_str_at is_utf8 chars encode_utf8 method_in
    arguments_at method_bytes
returns-clause-channel_close_ok c = (refl, refl)

pub returns-clause-queue_declare : goal.returns-clause-queue_declare
unfolding number_at bytes_at checked short_str long_str short_str_at long_str_at is_utf8 chars encode_utf8 method_in
    arguments_at method_bytes
returns-clause-queue_declare c = (refl, refl)

pub returns-clause-queue_declare_ok : goal.returns-clause-queue_declare_ok
unfolding number_at bytes_at checked short_str long_str short_str_at long_str_at is_utf8 chars encode_utf8 method_in
    arguments_at method_bytes
returns-clause-queue_declare_ok c = (refl, refl)

pub returns-clause-queue_purge : goal.returns-clause-queue_purge
unfolding number_at bytes_at checked short_str long_str short_str_at long_str_at is_utf8 chars encode_utf8 method_in
    arguments_at method_bytes
returns-clause-queue_purge c = (refl, refl)

pub returns-clause-queue_purge_ok : goal.returns-clause-queue_purge_ok
unfolding number_at bytes_at checked short_str long_str short_str_at long_str_at is_utf8 chars encode_utf8 method_in
    arguments_at method_bytes
returns-clause-queue_purge_ok c = (refl, refl)

pub returns-clause-confirm_select : goal.returns-clause-confirm_select
unfolding number_at bytes_at checked short_str long_str short_str_at long_str_at is_utf8 chars encode_utf8 method_in
    arguments_at method_bytes
returns-clause-confirm_select c = (refl, refl)

pub returns-clause-confirm_select_ok : goal.returns-clause-confirm_select_ok
unfolding number_at bytes_at checked short_str long_str short_str_at long_str_at is_utf8 chars encode_utf8 method_in
    arguments_at method_bytes
returns-clause-confirm_select_ok c = (refl, refl)
