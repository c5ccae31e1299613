use Rattle.qq_parts.proofs.Ending.{may_end}
use Rattle.qq_parts.proofs.parts.deliveries_end.Goals as goal

pub returns : goal.returns
returns c = may_end
