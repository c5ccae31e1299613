use Rattle.qq_parts.proofs.Waiting.{in_turn}
use Rattle.qq_parts.proofs.parts.turns_are_a_queue.Goals as goal

pub returns : goal.returns
returns c = in_turn
