use Rattle.qq_cluster_pins.proofs.Leading.{leads, leads-none}
use Rattle.qq_cluster_pins.proofs.ends.the_leader_takes_commands.Goals as goal

pub returns-clause-some : goal.returns-clause-some
returns-clause-some c = leads

pub returns-clause-none : goal.returns-clause-none
returns-clause-none c = leads-none
