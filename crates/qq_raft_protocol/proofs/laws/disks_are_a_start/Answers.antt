use Rattle.qq_raft_protocol.proofs.Fewer.{left-start, new-start}
use Rattle.qq_raft_protocol.proofs.laws.disks_are_a_start.Goals as goal

pub returns-clause-new : goal.returns-clause-new
returns-clause-new c = new-start

pub returns-clause-left : goal.returns-clause-left
returns-clause-left c = left-start
