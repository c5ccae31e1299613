use Rattle.qq_laws.proofs.DeadKinds.{keeps_dead}
use Rattle.qq_laws.proofs.DeadLemmas.{dead_until_settled}
use Rattle.qq_laws.proofs.dead_letters.the_dead_stay_until_settled.Goals as goal

pub returns : goal.returns
returns c = record { kept = keeps_dead; settled = dead_until_settled }
