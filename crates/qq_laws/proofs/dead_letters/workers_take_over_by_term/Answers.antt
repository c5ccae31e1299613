use Rattle.qq_laws.proofs.WorkerLemmas.{workers_take_over}
use Rattle.qq_laws.proofs.dead_letters.workers_take_over_by_term.Goals as goal

pub returns : goal.returns
returns c = workers_take_over
