use Rattle.std.proofs.Common.{◌≡◌, ◌-◌, arith}
use Rattle.qq_cluster_model.specs.Counts.{counts}
use Rattle.qq_cluster.proofs.Items.{item-here}
use Rattle.qq_cluster.proofs.LineRules.{queue-index}
use Rattle.qq_cluster.proofs.Shown.{told-at}
use Rattle.qq_cluster.proofs.nodes.Nodes.counts.Goals as goal

pub index-requires : goal.index-requires
index-requires g c = omega (arith, c.requires.queue.0, c.requires.queue.1)

pub counts-requires : goal.counts-requires
counts-requires g c =
    (c.requires.serve.3.queues (c.args.queue.0 - 1) _
    (item-here c.args.self.now.queues.items (c.args.queue.0 - 1) _
    (queue-index c.args.self.now c.args.queue c.requires.queue) c.index.ensures)).sound

pub returns : goal.returns
returns g c =
    told-at (λ q. c.counts.result ≡ counts q) c.args.self.now c.args.queue _ c.requires.queue
    (item-here c.args.self.now.queues.items (c.args.queue.0 - 1) _
    (queue-index c.args.self.now c.args.queue c.requires.queue) c.index.ensures) c.counts.ensures
