use Rattle.qq_cluster_pins.proofs.Times.{crash-leaves}
use Rattle.qq_cluster_pins.proofs.moments.a_crash_leaves_one_moment.Goals as goal

pub returns : goal.returns
returns c = crash-leaves
