use Rattle.qq_raft_away_laws.proofs.Returns.{reopen-allowed, reopen-restart, reopen-start}
use Rattle.qq_raft_away_laws.proofs.rules.a_failed_node_may_return.Goals as goal

pub returns-clause-start : goal.returns-clause-start
returns-clause-start c = reopen-start

pub returns-clause-allowed : goal.returns-clause-allowed
returns-clause-allowed c = reopen-allowed

pub returns-clause-restart : goal.returns-clause-restart
returns-clause-restart c = reopen-restart
