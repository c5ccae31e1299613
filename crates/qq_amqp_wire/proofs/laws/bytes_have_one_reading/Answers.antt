use Rattle.qq_amqp_wire.proofs.CallLaws.{same_read}
use Rattle.qq_amqp_wire.proofs.MoreLaws.{read_more, fault_more}
use Rattle.qq_amqp_wire.proofs.ProtocolLaws.{same_fault, frame_or_fault}
use Rattle.qq_amqp_wire.proofs.laws.bytes_have_one_reading.Goals as goal

pub returns-clause-frame : goal.returns-clause-frame
returns-clause-frame c = same_read

pub returns-clause-fault : goal.returns-clause-fault
returns-clause-fault c = same_fault

pub returns-clause-either : goal.returns-clause-either
returns-clause-either c = frame_or_fault

pub returns-clause-frame_stays : goal.returns-clause-frame_stays
returns-clause-frame_stays c = read_more

pub returns-clause-fault_stays : goal.returns-clause-fault_stays
returns-clause-fault_stays c = fault_more
