use Rattle.qq_laws.proofs.ServedLemmas.{leaves_out}
use Rattle.qq_laws.proofs.consumers.deliveries_are_out.Goals as goal

pub returns : goal.returns
returns c = leaves_out
