use Rattle.std.proofs.Common.{Option, sym, subst}
use Rattle.qq_base.specs.declared.ids.NodeId.{NodeId}
use Rattle.qq_cluster_model.specs.Queue.{submit_to}
use Rattle.qq_queue.specs.Members.{Makes, number_of}
use Rattle.qq_queue.proofs.cluster_queue.ClusterQueue.offer.Goals as goal

pub returns-clause-ok : goal.returns-clause-ok
returns-clause-ok c =
    subst (λ (o : Option NodeId). Makes (submit_to (number_of o) c.args.command) c.args.self.now.group c.submit.new.group)
    (sym c.in-Some.is) c.in_ok-submit.ensures.ok
