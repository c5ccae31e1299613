use Rattle.qq_amqp_wire.proofs.ProtocolLaws.{fault_again, frame_there, frame_alone, fault_alone, none_there, none_alone}
use Rattle.qq_amqp_wire.proofs.laws.what_is_found_stands_there.Goals as goal

pub returns-clause-frame : goal.returns-clause-frame
returns-clause-frame c = frame_there

pub returns-clause-frame_alone : goal.returns-clause-frame_alone
returns-clause-frame_alone c = frame_alone

pub returns-clause-fault : goal.returns-clause-fault
returns-clause-fault c = fault_again

pub returns-clause-fault_alone : goal.returns-clause-fault_alone
returns-clause-fault_alone c = fault_alone

pub returns-clause-none : goal.returns-clause-none
returns-clause-none c = none_there

pub returns-clause-none_alone : goal.returns-clause-none_alone
returns-clause-none_alone c = none_alone
