use Rattle.std.proofs.Common.{refl}
use Rattle.std.proofs.Common.{◌-◌}
use Rattle.qq_cluster_model.specs.Queue.{Loses}
use Rattle.qq_raft_model.specs.Group.Event.{Lose}
use Rattle.qq_queue.specs.Members.{move_at}
use Rattle.qq_queue.proofs.Happening.{plain-becomes, lose-plain}
use Rattle.qq_queue.proofs.cluster_queue.ClusterQueue.lose.Goals as goal

pub returns-clause-ok : goal.returns-clause-ok
returns-clause-ok c =
    plain-becomes (Loses (c.args.place - 1)) (move_at Lose c.args.place) c.args.self.now
    (record c.args.self.now { group = c.happen.new.group })
    (lose-plain c.args.place c.requires.place) c.in-Ok.ensures.ok refl refl refl refl refl refl
