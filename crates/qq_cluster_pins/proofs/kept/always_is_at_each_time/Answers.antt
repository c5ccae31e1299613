use Rattle.qq_cluster_pins.proofs.Times.{begins, during-event, ends}
use Rattle.qq_cluster_pins.proofs.kept.always_is_at_each_time.Goals as goal

pub returns-clause-begins : goal.returns-clause-begins
returns-clause-begins c = begins

pub returns-clause-ends : goal.returns-clause-ends
returns-clause-ends c = ends

pub returns-clause-event : goal.returns-clause-event
returns-clause-event c = during-event
