use Rattle.qq_raft_away_laws.proofs.Alone.{alone-start}
use Rattle.qq_raft_away_laws.proofs.laws.nobody_needs_who_was_away.Goals as goal

pub returns : goal.returns
returns c = alone-start
