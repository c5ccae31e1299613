use Rattle.std.proofs.Common.{◌+◌, ◌∙◌}
use Rattle.qq_queue.specs.Sessions.{standings}
use Rattle.qq_cluster.proofs.Items.{item-here}
use Rattle.qq_cluster.proofs.WaitsThere.{noticed-told_at}
use Rattle.qq_cluster.proofs.nodes.Nodes.waits_noticed.Goals as goal

pub waits_noticed-requires : goal.waits_noticed-requires
waits_noticed-requires g c =
    (c.requires.serve.3.queues c.args.at _ (item-here c.args.self.now.queues.items c.args.at _ c.requires.place c.index.ensures)).sound

pub returns : goal.returns
returns g c = λ setup d r st.
    c.waits_noticed.ensures (standings c.args.self.now.sessions) (d.queue (c.args.at + 1))
    (st.queues c.args.at _ (item-here c.args.self.now.queues.items c.args.at _ c.requires.place c.index.ensures)).stands
    ∙ noticed-told_at setup d c.args.self.now c.args.node c.args.at r st c.requires.node c.requires.place
