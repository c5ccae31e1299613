use Rattle.std.proofs.lemmas.Result.{on_ok_weaker}
use Rattle.qq_cluster_model.specs.Queue.{Writes}
use Rattle.qq_cluster.proofs.Turned.{takes-at, turns-at}
use Rattle.qq_cluster.proofs.turning.take_at.Goals as goal

pub returns-clause-ok : goal.returns-clause-ok
returns-clause-ok c =
    on_ok_weaker c.take_ops.result
    (λ becomes. turns-at (Writes c.args.node.0) c.args.at c.args.queues.now _ c.take_ops.new.self
    c.requires.place c.take_ops.ensures.sound c.take_ops.ensures.same becomes) c.take_ops.ensures.ok

pub returns-clause-taken : goal.returns-clause-taken
returns-clause-taken c =
    on_ok_weaker c.take_ops.result
    (λ taken. takes-at c.args.node.0 c.args.at c.args.queues.now _ c.args.ops.now.items c.take_ops.new.ops.items
    c.requires.place taken) c.take_ops.ensures.taken
