use Rattle.qq_laws.proofs.KeptLemmas.{nobody_waits}
use Rattle.qq_laws.proofs.consumers.nobody_waits_in_vain.Goals as goal

pub returns : goal.returns
returns c = nobody_waits
