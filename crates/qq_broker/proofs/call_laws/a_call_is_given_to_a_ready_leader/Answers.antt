use Rattle.qq_broker.proofs.CallAnswers.{refused-given}
use Rattle.qq_broker.proofs.call_laws.a_call_is_given_to_a_ready_leader.Goals as goal

pub returns : goal.returns
returns c = refused-given
