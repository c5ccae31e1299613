use Rattle.qq_laws.proofs.Delivering.{delivers_in_turn}
use Rattle.qq_laws.proofs.consumers.deliveries_are_made_in_turn.Goals as goal

pub returns : goal.returns
returns c = delivers_in_turn
