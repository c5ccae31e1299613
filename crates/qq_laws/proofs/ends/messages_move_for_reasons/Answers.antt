use Rattle.qq_laws.proofs.Carried.{moves_for_reasons}
use Rattle.qq_laws.proofs.ends.messages_move_for_reasons.Goals as goal

pub returns : goal.returns
returns c = moves_for_reasons
