use Rattle.std.proofs.Common.{refl}
use Rattle.std.specs.Char.{encode_utf8}
use Rattle.std.specs.Str.{chars, is_utf8}
use Rattle.qq_fields.specs.Reading.{number_at, bytes_at, checked}
use Rattle.qq_amqp_wire.specs.Arguments.{short_str, long_str, short_str_at, long_str_at}
use Rattle.qq_amqp_wire.specs.Frames.{method_in}
use Rattle.qq_amqp_wire.specs.Rows.{arguments_at}
use Rattle.qq_amqp_wire.specs.Writing.{method_bytes}
use Rattle.qq_amqp_wire.proofs.worked.connection_methods_have_these_bytes.Goals as goal

pub returns-clause-connection_start : goal.returns-clause-connection_start
unfolding number_at bytes_at checked short_str long_str short_str_at long_str_at is_utf8 chars encode_utf8 method_in
    arguments_at method_bytes
returns-clause-connection_start c = (refl, refl)

pub returns-clause-connection_start_ok : goal.returns-clause-connection_start_ok
unfolding number_at bytes_at checked short_str long_str short_str_at long_str_at is_utf8 chars encode_utf8 method_in
    arguments_at method_bytes
returns-clause-connection_start_ok c = (refl, refl)

pub returns-clause-connection_tune : goal.returns-clause-connection_tune
unfolding number_at bytes_at checked short_str long_str short_str_at long_str_at is_utf8 chars encode_utf8 method_in
    arguments_at method_bytes
returns-clause-connection_tune c = (refl, refl)

pub returns-clause-connection_tune_ok : goal.returns-clause-connection_tune_ok
unfolding number_at bytes_at checked short_str long_str short_str_at long_str_at is_utf8 chars encode_utf8 method_in
    arguments_at method_bytes
returns-clause-connection_tune_ok c = (refl, refl)

pub returns-clause-connection_open : goal.returns-clause-connection_open
unfolding number_at bytes_at checked short_str long_str short_str_at long_str_at is_utf8 chars encode_utf8 method_in
    arguments_at method_bytes
returns-clause-connection_open c = (refl, refl)

pub returns-clause-connection_open_ok : goal.returns-clause-connection_open_ok
unfolding number_at bytes_at checked short_str long_str short_str_at long_str_at is_utf8 chars encode_utf8 method_in
    arguments_at method_bytes
returns-clause-connection_open_ok c = (refl, refl)

pub returns-clause-connection_close : goal.returns-clause-connection_close
unfolding number_at bytes_at checked short_str long_str short_str_at long_str_at is_utf8 chars encode_utf8 method_in
    arguments_at method_bytes
returns-clause-connection_close c = (refl, refl)

pub returns-clause-connection_close_ok : goal.returns-clause-connection_close_ok
unfolding number_at bytes_at checked short_str long_str short_str_at long_str_at is_utf8 chars encode_utf8 method_in
    arguments_at method_bytes
returns-clause-connection_close_ok c = (refl, refl)
