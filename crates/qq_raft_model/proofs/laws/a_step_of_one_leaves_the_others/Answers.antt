use Rattle.qq_raft_model.proofs.Later.{others-stand, way-later}
use Rattle.qq_raft_model.proofs.laws.a_step_of_one_leaves_the_others.Goals as goal

pub returns-clause-stand : goal.returns-clause-stand
returns-clause-stand c = λ k q w v s only other st. others-stand only other st

pub returns-clause-way : goal.returns-clause-way
returns-clause-way c = λ k w v r only x. way-later only.later x
