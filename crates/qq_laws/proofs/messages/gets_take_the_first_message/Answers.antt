use Rattle.qq_laws.proofs.TakenLemmas.{takes_first}
use Rattle.qq_laws.proofs.messages.gets_take_the_first_message.Goals as goal

pub returns : goal.returns
returns c = takes_first
