use Rattle.qq_amqp_wire.proofs.CallLaws.{from_then_on}
use Rattle.qq_amqp_wire.proofs.laws.a_fault_is_answered_from_then_on.Goals as goal

pub returns : goal.returns
returns c = from_then_on
