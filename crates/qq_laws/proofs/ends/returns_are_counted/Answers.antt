use Rattle.qq_laws.proofs.CountLemmas.{counts_returns}
use Rattle.qq_laws.proofs.ends.returns_are_counted.Goals as goal

pub returns : goal.returns
returns c = counts_returns
