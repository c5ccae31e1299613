use Rattle.qq_raft_away_laws.proofs.Replaced.{low-refused}
use Rattle.qq_raft_away_laws.proofs.worked.the_term_of_an_entry_is_too_low.Goals as goal

pub returns : goal.returns
returns c = low-refused
