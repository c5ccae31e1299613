use Rattle.std.proofs.Common.{◌∷◌, [], refl}
use Rattle.qq_cluster_model.specs.Queue.{Stops}
use Rattle.qq_raft_model.specs.Group.Event.{Crash}
use Rattle.qq_queue.proofs.Happening.{plain-becomes, tells-nothing, waits-nothing}
use Rattle.qq_queue.proofs.cluster_queue.ClusterQueue.stop.Goals as goal

pub returns-clause-ok : goal.returns-clause-ok
returns-clause-ok c =
    plain-becomes (Stops c.args.node.0) (Crash c.args.node.0 ∷ []) c.args.self.now
    (record c.args.self.now { group = c.happen.new.group })
    (record {
      moves_are = λ q. refl;
      clients_are = λ q. refl;
      consumers_are = λ q. refl;
      takers_are = λ q. record { seats = refl; untold = waits-nothing q.untold q.seats };
      synced_is = λ q. refl;
      silent = λ q. tells-nothing q.untold q.seats;
    }) c.in-Ok.ensures.ok refl refl refl refl refl refl
