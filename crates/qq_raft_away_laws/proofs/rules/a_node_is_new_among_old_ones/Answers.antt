use Rattle.qq_raft_away_laws.proofs.Returns.{all-new, begins-led, blank-new, failed-away, new-blank, present-away}
use Rattle.qq_raft_away_laws.proofs.rules.a_node_is_new_among_old_ones.Goals as goal

pub returns-clause-blank : goal.returns-clause-blank
returns-clause-blank c = new-blank

pub returns-clause-new : goal.returns-clause-new
returns-clause-new c = blank-new

pub returns-clause-alone : goal.returns-clause-alone
returns-clause-alone c = all-new

pub returns-clause-begins : goal.returns-clause-begins
returns-clause-begins c = begins-led

pub returns-clause-failed : goal.returns-clause-failed
returns-clause-failed c = failed-away

pub returns-clause-present : goal.returns-clause-present
returns-clause-present c = present-away
