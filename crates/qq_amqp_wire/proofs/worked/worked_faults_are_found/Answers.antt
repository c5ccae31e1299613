use Rattle.std.proofs.Common.{refl}
use Rattle.qq_fields.specs.Reading.{number_at}
use Rattle.qq_amqp_wire.specs.Frames.{method_in, header_in, payload_in, head_at, frame_of, frame_at, protocol_at, found_at}
use Rattle.qq_amqp_wire.specs.Rows.{arguments_at}
use Rattle.qq_amqp_wire.proofs.worked.worked_faults_are_found.Goals as goal

pub returns-clause-protocol : goal.returns-clause-protocol
unfolding number_at method_in header_in payload_in head_at frame_of frame_at protocol_at found_at arguments_at
returns-clause-protocol c = refl

pub returns-clause-kind : goal.returns-clause-kind
unfolding number_at method_in header_in payload_in head_at frame_of frame_at protocol_at found_at arguments_at
returns-clause-kind c = refl

pub returns-clause-long : goal.returns-clause-long
unfolding number_at method_in header_in payload_in head_at frame_of frame_at protocol_at found_at arguments_at
returns-clause-long c = refl

pub returns-clause-end : goal.returns-clause-end
unfolding number_at method_in header_in payload_in head_at frame_of frame_at protocol_at found_at arguments_at
returns-clause-end c = refl

pub returns-clause-method : goal.returns-clause-method
unfolding number_at method_in header_in payload_in head_at frame_of frame_at protocol_at found_at arguments_at
returns-clause-method c = refl

pub returns-clause-field : goal.returns-clause-field
unfolding number_at method_in header_in payload_in head_at frame_of frame_at protocol_at found_at arguments_at
returns-clause-field c = refl

pub returns-clause-left_over : goal.returns-clause-left_over
unfolding number_at method_in header_in payload_in head_at frame_of frame_at protocol_at found_at arguments_at
returns-clause-left_over c = refl

pub returns-clause-small : goal.returns-clause-small
unfolding number_at method_in header_in payload_in head_at frame_of frame_at protocol_at found_at arguments_at
returns-clause-small c = refl
