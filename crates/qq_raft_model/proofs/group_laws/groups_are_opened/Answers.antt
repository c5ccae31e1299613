use Rattle.qq_raft_model.proofs.Opening.{again-opened, new-opened}
use Rattle.qq_raft_model.proofs.group_laws.groups_are_opened.Goals as goal

pub returns-clause-new : goal.returns-clause-new
returns-clause-new c = new-opened

pub returns-clause-again : goal.returns-clause-again
returns-clause-again c = again-opened
