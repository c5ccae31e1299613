use Rattle.qq_raft_protocol.proofs.Appended.{audit-comes, lane-comes}
use Rattle.qq_raft_protocol.proofs.laws.an_entry_was_appended.Goals as goal

pub returns-clause-lane : goal.returns-clause-lane
returns-clause-lane c = lane-comes

pub returns-clause-audit : goal.returns-clause-audit
returns-clause-audit c = audit-comes
