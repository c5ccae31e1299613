use Rattle.qq_laws.proofs.Runs.{publishes_at}
use Rattle.qq_laws.proofs.messages.publishes_are_kept.Goals as goal

pub returns : goal.returns
returns c = publishes_at
