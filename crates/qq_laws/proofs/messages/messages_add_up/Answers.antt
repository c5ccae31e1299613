use Rattle.qq_laws.proofs.Runs.{adds_up}
use Rattle.qq_laws.proofs.messages.messages_add_up.Goals as goal

pub returns : goal.returns
returns c = adds_up
