use Rattle.std.proofs.Common.{subst}
use Rattle.std.proofs.lemmas.Result.{on_ok_weaker}
use Rattle.qq_cluster.specs.Turning.{TakesAt}
use Rattle.qq_cluster.proofs.turning.take_in.Goals as goal

pub returns-clause-taken : goal.returns-clause-taken
returns-clause-taken c =
    on_ok_weaker c.take_at.result
    (λ taken. subst (λ queues. TakesAt c.args.node.0 c.args.at queues c.args.ops.now.items c.take_at.new.ops.items)
    c.deref_mut.ensures.value taken) c.take_at.ensures.taken
