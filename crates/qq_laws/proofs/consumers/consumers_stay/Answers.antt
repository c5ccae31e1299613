use Rattle.qq_laws.proofs.Joining.{stays_there}
use Rattle.qq_laws.proofs.consumers.consumers_stay.Goals as goal

pub returns : goal.returns
returns c = stays_there
