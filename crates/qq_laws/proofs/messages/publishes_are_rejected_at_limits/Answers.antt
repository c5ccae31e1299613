use Rattle.qq_laws.proofs.KeptLemmas.{rejects_at_limit}
use Rattle.qq_laws.proofs.messages.publishes_are_rejected_at_limits.Goals as goal

pub returns : goal.returns
returns c = rejects_at_limit
