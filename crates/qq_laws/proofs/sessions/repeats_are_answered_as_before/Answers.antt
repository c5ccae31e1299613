use Rattle.qq_laws.proofs.TurnAway.{repeat-again}
use Rattle.qq_laws.proofs.sessions.repeats_are_answered_as_before.Goals as goal

pub returns : goal.returns
returns c = repeat-again
