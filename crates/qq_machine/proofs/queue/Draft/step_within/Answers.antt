use Rattle.std.proofs.Common.{ap, ◌∙◌}
use Rattle.qq_parts.specs.Step.{PartsStep}
use Rattle.qq_machine.specs.Within.{are_within}
use Rattle.qq_machine.proofs.NumberEnds.{spent_where}
use Rattle.qq_machine.proofs.queue.Draft.step_within.Goals as goal

pub returns-in-Ok-check_ends-clause-told : goal.returns-in-Ok-check_ends-clause-told
returns-in-Ok-check_ends-clause-told c = c.in-Ok-check_ends.ensures.ok c.args.args.now

pub returns-in-Err-check_ends-clause-cause : goal.returns-in-Err-check_ends-clause-cause
returns-in-Err-check_ends-clause-cause c =
    spent_where c.in-Err-check_ends.cause _ _
    (λ is. ap (λ (p : PartsStep). are_within p.parts) c.in-Ok.ensures.ok ∙ is c.args.args.now)
    c.in-Err-check_ends.ensures.cause
