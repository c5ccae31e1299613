use Rattle.qq_laws.proofs.Joining.{cancels_consumer}
use Rattle.qq_laws.proofs.consumers.consumers_are_cancelled.Goals as goal

pub returns : goal.returns
returns c = cancels_consumer
