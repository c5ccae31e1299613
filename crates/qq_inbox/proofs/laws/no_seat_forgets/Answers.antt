use Rattle.qq_inbox.proofs.Knowledge.{raise_keeps, raise_shows, joins_keep}
use Rattle.qq_inbox.proofs.Numbers.{at_most_same}
use Rattle.qq_inbox.proofs.laws.no_seat_forgets.Goals as goal

pub returns-clause-raises : goal.returns-clause-raises
returns-clause-raises c v mark n below = raise_keeps v mark n below

pub returns-clause-raised : goal.returns-clause-raised
returns-clause-raised c v mark n within = raise_shows v mark n within

pub returns-clause-splits : goal.returns-clause-splits
returns-clause-splits c v = at_most_same v.seen

pub returns-clause-joins : goal.returns-clause-joins
returns-clause-joins c v w = joins_keep v.seen w.seen
