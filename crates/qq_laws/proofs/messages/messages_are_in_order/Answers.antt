use Rattle.qq_laws.proofs.Runs.{in_order}
use Rattle.qq_laws.proofs.messages.messages_are_in_order.Goals as goal

pub returns : goal.returns
returns c = in_order
