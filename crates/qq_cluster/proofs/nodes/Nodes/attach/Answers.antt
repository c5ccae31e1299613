use Rattle.qq_base.proofs.Exits.{at_exit}
use Rattle.qq_cluster_model.specs.Cluster.{At, Setup}
use Rattle.qq_cluster_model.specs.Queue.{Attaches}
use Rattle.qq_cluster_model.specs.Rules.{Is}
use Rattle.qq_cluster.proofs.LineRules.{at-queue, at-queue_gave_up, queue-index}
use Rattle.qq_cluster.proofs.nodes.Nodes.attach.Goals as goal

pub happen-requires-clause-place : goal.happen-requires-clause-place
happen-requires-clause-place g c = queue-index c.args.self.now c.args.queue c.requires.queue

pub returns-clause-ok : goal.returns-clause-ok
returns-clause-ok g c =
    at-queue (λ k (setup : Setup). Is (At k (Attaches c.args.session c.args.tag c.args.number))) c.args.queue
    c.requires.queue.0 c.in_ok-happen.ensures.ok

pub returns-in_err-happen-clause-err : goal.returns-in_err-happen-clause-err
returns-in_err-happen-clause-err g c =
    at_exit _ _ c.from_residual.ensures.1 (at-queue_gave_up (λ k (setup : Setup). Is (At k (Attaches c.args.session c.args.tag c.args.number))) c.args.queue
    c.requires.queue.0 c.in_err-happen.ensures.err)
