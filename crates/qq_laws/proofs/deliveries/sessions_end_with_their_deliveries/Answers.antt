use Rattle.qq_laws.proofs.EndingRuns.{ends_sessions}
use Rattle.qq_laws.proofs.deliveries.sessions_end_with_their_deliveries.Goals as goal

pub returns : goal.returns
returns c = ends_sessions
