use Rattle.qq_laws.proofs.Joining.{joins}
use Rattle.qq_laws.proofs.consumers.consumers_join.Goals as goal

pub returns : goal.returns
returns c = joins
