use Rattle.std.proofs.lemmas.Result.{IfErr-weaker, on_ok_weaker}
use Rattle.qq_opening.proofs.TakingUp.{caused-at, taken-at}
use Rattle.qq_opening.proofs.taking.take_up_at.Goals as goal

pub returns-clause-ok : goal.returns-clause-ok
returns-clause-ok c =
    on_ok_weaker c.take_up.result
    (λ takes. taken-at c.args.node.0 c.args.queues.now c.args.id _ c.requires.may c.args.handed c.args.lane
    c.take_up.new.queue takes) c.take_up.ensures.ok

pub returns-clause-cause : goal.returns-clause-cause
returns-clause-cause c =
    IfErr-weaker c.take_up.result _ _
    (λ fault caused. caused-at c.args.node.0 c.args.queues.now c.args.id _ c.requires.may c.args.handed c.args.lane
    fault caused) c.take_up.ensures.cause
