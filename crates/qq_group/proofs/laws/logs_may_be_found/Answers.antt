use Rattle.qq_group.proofs.Finding.{logs-found}
use Rattle.qq_group.proofs.laws.logs_may_be_found.Goals as goal

pub returns : goal.returns
returns g c = λ queue nodes audit starts apart may. logs-found g.L.LogView.log queue nodes audit starts apart may
