use Rattle.qq_raft_away_laws.proofs.Replaced.{at_once-allowed, at_once-loses, replaced-beside}
use Rattle.qq_raft_away_laws.proofs.worked.who_begins_at_once_may_lose_an_entry.Goals as goal

pub returns-clause-beside : goal.returns-clause-beside
returns-clause-beside c = replaced-beside

pub returns-clause-allowed : goal.returns-clause-allowed
returns-clause-allowed c = at_once-allowed

pub returns-clause-lost : goal.returns-clause-lost
returns-clause-lost c = at_once-loses
