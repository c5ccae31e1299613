use Rattle.qq_recover.proofs.GoingOn.{settled-on}
use Rattle.qq_recover.proofs.laws.recovery_settles_on_first_ops.Goals as goal

pub returns : goal.returns
returns c = settled-on
