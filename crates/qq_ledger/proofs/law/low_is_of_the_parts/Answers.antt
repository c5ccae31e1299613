use Rattle.qq_ledger.proofs.Low.{low-parts}
use Rattle.qq_ledger.proofs.law.low_is_of_the_parts.Goals as goal

pub returns : goal.returns
returns c = low-parts
