use Rattle.qq_queue.proofs.Muting.{ends, mutes}
use Rattle.qq_queue.proofs.laws.sessions_are_those_of_each_queue.Goals as goal

pub returns-clause-mutes : goal.returns-clause-mutes
returns-clause-mutes c = λ sessions session muted d q st. mutes sessions session muted d q st

pub returns-clause-ends : goal.returns-clause-ends
returns-clause-ends c = λ sessions session d q st. ends sessions session d q st
