use Rattle.qq_defs.proofs.Runnable.{plain-runnable, read-runnable}
use Rattle.qq_defs.proofs.laws.setups_may_be_run.Goals as goal

pub returns-clause-plain : goal.returns-clause-plain
returns-clause-plain c = plain-runnable

pub returns-clause-read : goal.returns-clause-read
returns-clause-read c = read-runnable
