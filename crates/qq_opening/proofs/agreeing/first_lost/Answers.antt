use Rattle.std.proofs.Common.{arith, subst, sym}
use Rattle.qq_queue.specs.Members.{AreSound}
use Rattle.qq_queue.specs.declared.cluster_queue.ClusterQueue.{ClusterQueue}
use Rattle.qq_cluster.proofs.Items.{item-here}
use Rattle.qq_opening.proofs.Agreed.{agree-all, agree-next, agree-none}
use Rattle.qq_opening.proofs.agreeing.first_lost.Goals as goal

pub queues-init : goal.queues-init
queues-init g c = agree-none c.args.nodes.now.queues.items

pub logs_agree-agree-requires : goal.logs_agree-agree-requires
logs_agree-agree-requires g c =
    subst (λ (d : ClusterQueue). AreSound d.group) (sym c.index-queue.ensures)
    (c.requires c.queues.at c.index-queue.result.now (omega (arith, c.len-count.ensures)))

pub queues-preserved : goal.queues-preserved
queues-preserved g c =
    agree-next c.queues.at c.args.nodes.now.queues.items c.index-queue.result.now
    (item-here c.args.nodes.now.queues.items c.queues.at c.index-queue.result.now (omega (arith, c.len-count.ensures))
    c.index-queue.ensures)
    (λ own has. c.logs_agree-agree.ensures.agree own has c.if-not-agree.false) c.queues.invariant

pub returns-clause-none : goal.returns-clause-none
returns-clause-none g c =
    agree-all c.queues.at c.args.nodes.now.queues.items (omega (arith, c.len-count.ensures)) c.queues.invariant
