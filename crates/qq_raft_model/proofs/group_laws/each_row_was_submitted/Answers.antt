use Rattle.qq_raft_model.proofs.Opening.{lane-row-comes, once, row-comes}
use Rattle.qq_raft_model.proofs.group_laws.each_row_was_submitted.Goals as goal

pub returns-clause-audit : goal.returns-clause-audit
returns-clause-audit c = row-comes

pub returns-clause-lane : goal.returns-clause-lane
returns-clause-lane c = lane-row-comes

pub returns-clause-once : goal.returns-clause-once
returns-clause-once c = once
