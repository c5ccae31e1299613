use Rattle.qq_cluster_pins.proofs.Asked.{given-none, given-some, in-order}
use Rattle.qq_cluster_pins.proofs.takers.takers_are_given.Goals as goal

pub returns-clause-given : goal.returns-clause-given
returns-clause-given c = given-none

pub returns-clause-busy : goal.returns-clause-busy
returns-clause-busy c = given-some

pub returns-clause-order : goal.returns-clause-order
returns-clause-order c = in-order
