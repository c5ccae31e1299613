use Rattle.qq_laws.proofs.Joining.{only_join}
use Rattle.qq_laws.proofs.consumers.consumers_come_by_subscribes.Goals as goal

pub returns : goal.returns
returns c = only_join
