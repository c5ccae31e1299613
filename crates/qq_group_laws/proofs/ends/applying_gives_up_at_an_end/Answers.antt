use Rattle.qq_group_laws.proofs.Causes.{applies-want}
use Rattle.qq_group_laws.proofs.ends.applying_gives_up_at_an_end.Goals as goal

pub returns-clause-spent : goal.returns-clause-spent
returns-clause-spent g c = λ acts s number cause. cause

pub returns-clause-want : goal.returns-clause-want
returns-clause-want g c = applies-want g.Q.Queue.step g.Q.Queue.passes_end
