use Rattle.qq_laws.proofs.ServedLemmas.{serves_who_waits}
use Rattle.qq_laws.proofs.consumers.deliveries_go_to_who_waits.Goals as goal

pub returns : goal.returns
returns c = serves_who_waits
