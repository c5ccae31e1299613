use Rattle.qq_raft_away_laws.proofs.Returns.{term-above, term-next}
use Rattle.qq_raft_away_laws.proofs.rules.the_next_term_is_assumed.Goals as goal

pub returns-clause-above : goal.returns-clause-above
returns-clause-above c = term-above

pub returns-clause-next : goal.returns-clause-next
returns-clause-next c = term-next
