use Rattle.qq_parts.proofs.Active.{active-is}
use Rattle.qq_parts.proofs.parts.the_active_consumer_is_the_first.Goals as goal

pub returns : goal.returns
returns c = active-is
