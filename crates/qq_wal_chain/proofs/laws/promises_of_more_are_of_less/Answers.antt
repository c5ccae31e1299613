use Rattle.qq_wal_chain.proofs.Gives.{promise-weaker}
use Rattle.qq_wal_chain.proofs.laws.promises_of_more_are_of_less.Goals as goal

pub returns : goal.returns
returns c = promise-weaker
