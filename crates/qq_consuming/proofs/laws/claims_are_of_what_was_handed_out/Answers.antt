use Rattle.qq_consuming.proofs.HistoryLaws.{claimed}
use Rattle.qq_consuming.proofs.laws.claims_are_of_what_was_handed_out.Goals as goal

pub returns : goal.returns
returns c = claimed
