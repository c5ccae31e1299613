use Rattle.qq_lots.proofs.Finds.{found-tied, settled-at}
use Rattle.qq_lots.proofs.laws.a_log_goes_on_with_what_recovery_found.Goals as goal

pub returns-clause-between : goal.returns-clause-between
returns-clause-between c = settled-at

pub returns-clause-tied : goal.returns-clause-tied
returns-clause-tied c = found-tied
