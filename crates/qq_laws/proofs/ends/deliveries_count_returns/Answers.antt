use Rattle.qq_laws.proofs.ReturnRuns.{has_counted_returns, shows_returns}
use Rattle.qq_laws.proofs.ends.deliveries_count_returns.Goals as goal

pub returns : goal.returns
returns c = record { kept = has_counted_returns; shown = shows_returns }
