use Rattle.qq_laws.proofs.Within.{is_within}
use Rattle.qq_laws.proofs.number_ends.numbers_follow_their_counters.Goals as goal

pub returns : goal.returns
returns c = is_within
