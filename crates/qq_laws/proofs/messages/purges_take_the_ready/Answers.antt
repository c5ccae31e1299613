use Rattle.qq_laws.proofs.TakenLemmas.{purges_ready}
use Rattle.qq_laws.proofs.messages.purges_take_the_ready.Goals as goal

pub returns : goal.returns
returns c = purges_ready
