use Rattle.qq_raft_away_laws.proofs.Assumed.{assumed-start, assumed-supports}
use Rattle.qq_raft_away_laws.proofs.laws.what_was_not_read_may_be_assumed.Goals as goal

pub returns-clause-support : goal.returns-clause-support
returns-clause-support c = assumed-supports

pub returns-clause-start : goal.returns-clause-start
returns-clause-start c = assumed-start
