use Rattle.qq_laws.proofs.TurnAway.{turned_away_if}
use Rattle.qq_laws.proofs.sessions.commands_turned_away_change_nothing.Goals as goal

pub returns : goal.returns
returns c = turned_away_if
