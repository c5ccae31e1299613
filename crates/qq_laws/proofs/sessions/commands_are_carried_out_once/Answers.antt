use Rattle.qq_laws.proofs.OnceLemmas.{carried_out_once}
use Rattle.qq_laws.proofs.sessions.commands_are_carried_out_once.Goals as goal

pub returns : goal.returns
returns c = carried_out_once
