use Rattle.std.proofs.Common.{refl}
use Rattle.qq_fields.specs.Reading.{number_at}
use Rattle.qq_amqp_wire.specs.Frames.{method_in, header_in, payload_in, head_at, frame_of, frame_at, protocol_at, found_at}
use Rattle.qq_amqp_wire.specs.Rows.{arguments_at}
use Rattle.qq_amqp_wire.proofs.worked.worked_frames_are_found.Goals as goal

pub returns-clause-protocol : goal.returns-clause-protocol
unfolding number_at method_in header_in payload_in head_at frame_of frame_at protocol_at found_at arguments_at
returns-clause-protocol c = refl

pub returns-clause-heartbeat : goal.returns-clause-heartbeat
unfolding number_at method_in header_in payload_in head_at frame_of frame_at protocol_at found_at arguments_at
returns-clause-heartbeat c = refl

pub returns-clause-body : goal.returns-clause-body
unfolding number_at method_in header_in payload_in head_at frame_of frame_at protocol_at found_at arguments_at
returns-clause-body c = refl

pub returns-clause-select : goal.returns-clause-select
unfolding number_at method_in header_in payload_in head_at frame_of frame_at protocol_at found_at arguments_at
returns-clause-select c = refl

pub returns-clause-header : goal.returns-clause-header
unfolding number_at method_in header_in payload_in head_at frame_of frame_at protocol_at found_at arguments_at
returns-clause-header c = refl

pub returns-clause-nothing : goal.returns-clause-nothing
unfolding number_at method_in header_in payload_in head_at frame_of frame_at protocol_at found_at arguments_at
returns-clause-nothing c = refl

pub returns-clause-part : goal.returns-clause-part
unfolding number_at method_in header_in payload_in head_at frame_of frame_at protocol_at found_at arguments_at
returns-clause-part c = refl
