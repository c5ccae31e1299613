use Rattle.qq_parts.proofs.Leaving.{consumers_change}
use Rattle.qq_parts.proofs.parts.consumers_change_and_leave.Goals as goal

pub returns : goal.returns
returns c = consumers_change
