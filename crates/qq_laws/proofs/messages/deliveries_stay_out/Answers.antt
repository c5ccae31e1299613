use Rattle.qq_laws.proofs.TakenLemmas.{stays_out}
use Rattle.qq_laws.proofs.messages.deliveries_stay_out.Goals as goal

pub returns : goal.returns
returns c = stays_out
