use Rattle.qq_laws.proofs.EndingRuns.{passes_over}
use Rattle.qq_laws.proofs.deliveries.unknown_ids_are_passed_over.Goals as goal

pub returns : goal.returns
returns c = passes_over
