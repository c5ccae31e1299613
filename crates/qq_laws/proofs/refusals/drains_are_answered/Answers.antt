use Rattle.qq_laws.proofs.DrainedLemmas.{answers_drained}
use Rattle.qq_laws.proofs.refusals.drains_are_answered.Goals as goal

pub returns : goal.returns
returns c = answers_drained
