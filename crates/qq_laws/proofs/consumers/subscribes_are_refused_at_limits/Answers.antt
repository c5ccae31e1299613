use Rattle.qq_laws.proofs.Subscribing.{refuses_at_limits}
use Rattle.qq_laws.proofs.consumers.subscribes_are_refused_at_limits.Goals as goal

pub returns : goal.returns
returns c = refuses_at_limits
