use Rattle.qq_group_laws.proofs.group_refusals.a_loss_is_never_refused.Goals as goal

pub returns-clause-loss : goal.returns-clause-loss
returns-clause-loss g c = λ place old e cause. cause

pub returns-clause-crash : goal.returns-clause-crash
returns-clause-crash g c = λ node old e cause. cause
