use Rattle.std.proofs.Common.{refl}
use Rattle.qq_fields.specs.Reading.{number_at}
use Rattle.qq_amqp_wire.specs.Calls.{frames_of, left_of}
use Rattle.qq_amqp_wire.specs.Frames.{payload_in, head_at, frame_of, frame_at, protocol_at, found_at}
use Rattle.qq_amqp_wire.specs.Input.{fed, next}
use Rattle.qq_amqp_wire.proofs.worked.worked_calls_hand_out_frames.Goals as goal

pub returns-clause-frames : goal.returns-clause-frames
unfolding number_at payload_in head_at frame_of frame_at protocol_at found_at fed next frames_of left_of
returns-clause-frames c = refl

pub returns-clause-left : goal.returns-clause-left
unfolding number_at payload_in head_at frame_of frame_at protocol_at found_at fed next frames_of left_of
returns-clause-left c = refl

pub returns-clause-fault : goal.returns-clause-fault
unfolding number_at payload_in head_at frame_of frame_at protocol_at found_at fed next frames_of left_of
returns-clause-fault c = refl
