use Rattle.std.specs.Prelude.{nat_lt}
use Rattle.qq_cluster_model.specs.Queue.{Stops}
use Rattle.qq_cluster.specs.Turning.{TurnsWhere}
use Rattle.qq_cluster.proofs.turning.stop_each.Given as goal

-- the queues so far have stopped
abbrev pub invariant-queues : goal.invariant-queues
invariant-queues l =
    TurnsWhere (λ at. nat_lt at l.at) (Stops l.node.0) l.fn.queues l.queues
