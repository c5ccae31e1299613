use Rattle.qq_cluster_run.specs.Serving.{cluster_in, setup_in}
use Rattle.qq_broker.proofs.GoingOn.{queue-there}
use Rattle.qq_broker.proofs.broker.Broker.counts.Goals as goal

pub counts-requires-clause-queue : goal.counts-requires-clause-queue
counts-requires-clause-queue g c =
    let disk = g.D.NodeDisk in
    queue-there c.requires.0 disk.facts c.args.self.now.setup c.requires.1.0 c.args.self.now.nodes c.args.queue
    c.requires.1.1.holds c.requires.1.2

pub returns : goal.returns
returns g c = λ given run so.
    c.counts.ensures (setup_in c.args.self.now.setup run) (cluster_in c.args.self.now.setup run) so.holds.stands
