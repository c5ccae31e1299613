use Rattle.qq_lots.proofs.Writes.{new-promised, new-tied}
use Rattle.qq_lots.proofs.laws.a_new_log_has_no_ops.Goals as goal

pub returns-clause-promised : goal.returns-clause-promised
returns-clause-promised c = new-promised

pub returns-clause-tied : goal.returns-clause-tied
returns-clause-tied c = new-tied
