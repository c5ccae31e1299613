use Rattle.qq_laws.proofs.Turns.{serves_in_turn}
use Rattle.qq_laws.proofs.consumers.consumers_are_served_in_turn.Goals as goal

pub returns : goal.returns
returns c = serves_in_turn
