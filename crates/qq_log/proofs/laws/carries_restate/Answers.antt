use Rattle.qq_log.proofs.CarryLaws.{restates_exactly, restated, begun}
use Rattle.qq_log.proofs.laws.carries_restate.Goals as goal

pub returns-clause-exact : goal.returns-clause-exact
returns-clause-exact c = restates_exactly

pub returns-clause-again : goal.returns-clause-again
returns-clause-again c = restated

pub returns-clause-anew : goal.returns-clause-anew
returns-clause-anew c = begun
