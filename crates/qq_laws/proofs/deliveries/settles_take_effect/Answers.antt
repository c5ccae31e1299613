use Rattle.qq_laws.proofs.EndingRuns.{ends_deliveries}
use Rattle.qq_laws.proofs.deliveries.settles_take_effect.Goals as goal

pub returns : goal.returns
returns c = ends_deliveries
