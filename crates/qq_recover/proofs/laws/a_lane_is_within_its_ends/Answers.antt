use Rattle.qq_recover.proofs.States.{sound-entries}
use Rattle.qq_recover.proofs.laws.a_lane_is_within_its_ends.Goals as goal

pub returns-clause-numbers : goal.returns-clause-numbers
returns-clause-numbers c = λ lane is. (is.op, is.term, is.last, is.base.0, is.base.1, is.base.2)

pub returns-clause-vote : goal.returns-clause-vote
returns-clause-vote c = λ lane is. is.vote

pub returns-clause-entries : goal.returns-clause-entries
returns-clause-entries c = λ lane is. sound-entries lane.entries is.entries
