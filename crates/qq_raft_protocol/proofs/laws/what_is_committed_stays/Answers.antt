use Rattle.qq_raft_protocol.proofs.Runs.{audit-stays, leader-stays}
use Rattle.qq_raft_protocol.proofs.laws.what_is_committed_stays.Goals as goal

pub returns-clause-audit : goal.returns-clause-audit
returns-clause-audit c = audit-stays

pub returns-clause-leader : goal.returns-clause-leader
returns-clause-leader c = leader-stays
