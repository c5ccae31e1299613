use Rattle.qq_cluster.proofs.Built.{queues-more}
use Rattle.qq_cluster.proofs.Items.{item-here}
use Rattle.qq_cluster.proofs.new.new_queues.Goals as goal

pub rows-preserved : goal.rows-preserved
rows-preserved c =
    queues-more c.args.rows.now c.rows.at c.index-rows-at.result c.rows.queues.items c.push.new.self.items
    c.in_ok-queue.queue (item-here c.args.rows.now c.rows.at _ c.rows-test.true c.index-rows-at.is) c.rows.invariant
    c.in_ok-queue.ensures.ok c.in_ok-push.ensures.items
