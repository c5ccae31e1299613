use Rattle.std.proofs.Common.{refl}
use Rattle.qq_queue.proofs.Agrees.{all-are-down, down-begins}
use Rattle.qq_queue.proofs.Beginning.{opens-queue}
use Rattle.qq_queue.proofs.cluster_queue.ClusterQueue.new.Goals as goal

pub returns-clause-ok : goal.returns-clause-ok
returns-clause-ok c =
    opens-queue c.args.args c.args.nodes.now _ refl c.new-publishers.ensures c.new-consumers.ensures c.new-seats.ensures
    c.new-untold.ensures
    c.in_ok-group.ensures.ok

pub returns-clause-down : goal.returns-clause-down
returns-clause-down c = all-are-down c.args.args.queue c.args.nodes.now _ c.in_ok-group.ensures.over

pub returns-clause-begins : goal.returns-clause-begins
returns-clause-begins c =
    down-begins c.args.args.queue c.args.nodes.now _ c.in_ok-group.ensures.over
    (all-are-down c.args.args.queue c.args.nodes.now _ c.in_ok-group.ensures.over)
