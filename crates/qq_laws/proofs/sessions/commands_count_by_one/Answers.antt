use Rattle.qq_laws.proofs.FreshRuns.{commands_count}
use Rattle.qq_laws.proofs.sessions.commands_count_by_one.Goals as goal

pub returns : goal.returns
returns c = commands_count
