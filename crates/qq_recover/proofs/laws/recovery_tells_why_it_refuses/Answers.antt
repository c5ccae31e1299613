use Rattle.qq_recover.proofs.Causes.{disk-cause, greatest-listed, no-refusal-cause}
use Rattle.qq_recover.proofs.laws.recovery_tells_why_it_refuses.Goals as goal

pub returns-clause-disk : goal.returns-clause-disk
returns-clause-disk c = disk-cause

pub returns-clause-spent : goal.returns-clause-spent
returns-clause-spent c = λ d before now number end greatest. greatest-listed d number end greatest

pub returns-clause-never : goal.returns-clause-never
returns-clause-never c = no-refusal-cause
