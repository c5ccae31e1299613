use Rattle.std.proofs.Common.{refl}
use Rattle.std.specs.Fmt.{digits}
use Rattle.qq_doctor.proofs.laws.verdicts_are_printed.Goals as goal

pub returns-clause-agree : goal.returns-clause-agree
unfolding digits
returns-clause-agree c = refl

pub returns-clause-differ : goal.returns-clause-differ
unfolding digits
returns-clause-differ c = refl
