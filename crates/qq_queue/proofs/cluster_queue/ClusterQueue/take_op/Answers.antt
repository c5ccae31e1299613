use Rattle.std.proofs.Common.{sym, subst, ◌∙◌}
use Rattle.qq_model.specs.State.{empty_queue}
use Rattle.qq_queue.specs.Handing.{TakesOp}
use Rattle.qq_queue.proofs.Taking.{if-some, takes-some}
use Rattle.qq_queue.proofs.cluster_queue.ClusterQueue.take_op.Goals as goal

pub returns-in_ok-push-in-Some-clause-ok : goal.returns-in_ok-push-in-Some-clause-ok
returns-in_ok-push-in-Some-clause-ok c =
    subst (TakesOp c.args.node.0 c.args.self.now.group c.waiting.new.self c.args.ops.now.items)
    (sym c.in_ok-push-in-Some.ensures.items)
    (takes-some c.events_reach_groups.ensures.later
    (λ args. c.members_apply_the_audit.ensures.handed (empty_queue args)) c.args.node.0 c.args.self.now.group
    c.waiting.new.self c.in-Some.op c.args.ops.now.items (sym c.in-Some.is ∙ c.waiting.ensures.value) c.waiting.ensures.made
    c.waiting.ensures.queue c.waiting.ensures.others c.waiting.ensures.audit
    (if-some _ _ c.in-Some.op c.in-Some.is c.waiting.ensures.left))
