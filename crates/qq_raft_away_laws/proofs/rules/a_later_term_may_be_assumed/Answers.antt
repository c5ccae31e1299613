use Rattle.qq_raft_away_laws.proofs.Returns.{below-later, first-later}
use Rattle.qq_raft_away_laws.proofs.rules.a_later_term_may_be_assumed.Goals as goal

pub returns-clause-below : goal.returns-clause-below
returns-clause-below c = below-later

pub returns-clause-first : goal.returns-clause-first
returns-clause-first c = first-later
