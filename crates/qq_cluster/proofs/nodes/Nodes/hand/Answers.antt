use Rattle.qq_base.proofs.Exits.{at_exit}
use Rattle.qq_cluster_model.specs.Cluster.{Setup}
use Rattle.qq_cluster_model.specs.Rules.{IsGiven}
use Rattle.qq_cluster.proofs.LineRules.{at-queue, at-queue_gave_up, queue-index}
use Rattle.qq_cluster.proofs.nodes.Nodes.hand.Goals as goal

pub give_at-requires-clause-place : goal.give_at-requires-clause-place
give_at-requires-clause-place g c = queue-index c.args.self.now c.args.queue c.requires.queue

pub returns-clause-ok : goal.returns-clause-ok
returns-clause-ok g c =
    at-queue (λ k (setup : Setup). IsGiven c.args.session c.args.body k) c.args.queue c.requires.queue.0
    c.in_ok-give_at.ensures.ok

pub returns-in_err-give_at-clause-err : goal.returns-in_err-give_at-clause-err
returns-in_err-give_at-clause-err g c =
    at_exit _ _ c.from_residual.ensures.1 (at-queue_gave_up (λ k (setup : Setup). IsGiven c.args.session c.args.body k) c.args.queue c.requires.queue.0
    c.in_err-give_at.ensures.err)
