use Rattle.qq_laws.proofs.WorkerLemmas.{counts_settlements}
use Rattle.qq_laws.proofs.dead_letters.settlements_count_dead_letters.Goals as goal

pub returns : goal.returns
returns c = counts_settlements
