use Rattle.std.proofs.Common.{◌+◌}
use Rattle.qq_queue.specs.Sessions.{standings}
use Rattle.qq_cluster.proofs.Items.{item-here}
use Rattle.qq_cluster.proofs.nodes.Nodes.messages.Goals as goal

pub returns : goal.returns
returns g c = λ setup d st.
    c.messages.ensures (standings c.args.self.now.sessions) (d.queue (c.args.at + 1))
    (st.queues c.args.at _ (item-here c.args.self.now.queues.items c.args.at _ c.requires.place c.index.ensures)).stands
