use Rattle.qq_laws.proofs.Runs.{effects_show}
use Rattle.qq_laws.proofs.messages.deliveries_show_publishes.Goals as goal

pub returns : goal.returns
returns c = effects_show
