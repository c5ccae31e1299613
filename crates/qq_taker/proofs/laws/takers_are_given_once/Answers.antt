use Rattle.qq_taker.specs.Takers.{hand}
use Rattle.qq_taker.proofs.Places.{change-other, change-twice, hand-again}
use Rattle.qq_taker.proofs.laws.takers_are_given_once.Goals as goal

pub returns-clause-again : goal.returns-clause-again
returns-clause-again c = λ all number. change-twice hand hand hand-again number all

pub returns-clause-others : goal.returns-clause-others
returns-clause-others c = λ all number other differs. change-other hand number other all differs
