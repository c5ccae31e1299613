use Rattle.qq_laws.proofs.IdRuns.{ids_count}
use Rattle.qq_laws.proofs.consumers.delivery_ids_count_by_one.Goals as goal

pub returns : goal.returns
returns c = ids_count
