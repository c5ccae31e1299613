use Rattle.qq_consuming.proofs.HistoryLaws.{remembered}
use Rattle.qq_consuming.proofs.laws.arrivals_are_remembered.Goals as goal

pub returns : goal.returns
returns c = remembered
