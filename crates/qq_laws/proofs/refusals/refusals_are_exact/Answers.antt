use Rattle.qq_laws.proofs.RefusalLemmas.{refuses_exactly}
use Rattle.qq_laws.proofs.refusals.refusals_are_exact.Goals as goal

pub returns : goal.returns
returns c = refuses_exactly
