use Rattle.qq_raft_away_laws.proofs.Above.{leader-above}
use Rattle.qq_raft_away_laws.proofs.laws.a_leader_is_above_what_was_read.Goals as goal

pub returns : goal.returns
returns c = leader-above
