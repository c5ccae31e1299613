use Rattle.qq_laws.proofs.TurnAway.{fresh_if_let_in}
use Rattle.qq_laws.proofs.sessions.commands_are_fresh_where_let_in.Goals as goal

pub returns : goal.returns
returns c = fresh_if_let_in
