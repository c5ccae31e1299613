use Rattle.qq_laws.proofs.KeptLemmas.{within_limits}
use Rattle.qq_laws.proofs.messages.limits_are_kept.Goals as goal

pub returns : goal.returns
returns c = within_limits
