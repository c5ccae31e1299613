use Rattle.qq_group_laws.proofs.Causes.{wants-memory}
use Rattle.qq_group_laws.proofs.refusals.a_number_is_told_at_its_end.Goals as goal

pub returns-clause-spent : goal.returns-clause-spent
returns-clause-spent c = λ s number cause. cause

pub returns-clause-want : goal.returns-clause-want
returns-clause-want c = wants-memory
