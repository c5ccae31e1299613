use Rattle.qq_laws.proofs.TurnAway.{repeat-stale}
use Rattle.qq_laws.proofs.sessions.repeats_are_turned_away.Goals as goal

pub returns : goal.returns
returns c = repeat-stale
