use Rattle.std.proofs.Common.{refl}
use Rattle.std.proofs.Common.{◌-◌}
use Rattle.qq_cluster_model.specs.Queue.{Copies}
use Rattle.qq_raft_model.specs.Group.Event.{Copy}
use Rattle.qq_queue.specs.Members.{move_at}
use Rattle.qq_queue.proofs.Happening.{plain-becomes, copy-plain}
use Rattle.qq_queue.proofs.cluster_queue.ClusterQueue.copy.Goals as goal

pub returns-clause-ok : goal.returns-clause-ok
returns-clause-ok c =
    plain-becomes (Copies (c.args.place - 1)) (move_at Copy c.args.place) c.args.self.now
    (record c.args.self.now { group = c.happen.new.group })
    (copy-plain c.args.place c.requires.place) c.in_ok-happen.ensures.ok refl refl refl refl refl refl
