use Rattle.qq_raft_away_laws.proofs.Begin.{begin-commit, begin-ready}
use Rattle.qq_raft_away_laws.proofs.laws.who_was_away_may_begin.Goals as goal

pub returns-clause-commit : goal.returns-clause-commit
returns-clause-commit c = begin-commit

pub returns-clause-ready : goal.returns-clause-ready
returns-clause-ready c = begin-ready
