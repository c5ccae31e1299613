use Rattle.std.proofs.Common.{◌+◌, ◌∙◌}
use Rattle.qq_queue.specs.Sessions.{standings}
use Rattle.qq_cluster.proofs.Items.{item-here}
use Rattle.qq_cluster.proofs.WaitsThere.{settled-told_at}
use Rattle.qq_cluster.proofs.nodes.Nodes.is_settled.Goals as goal

pub is_settled-requires : goal.is_settled-requires
is_settled-requires g c =
    (c.requires.serve.3.queues c.args.at _ (item-here c.args.self.now.queues.items c.args.at _ c.requires.place c.index.ensures)).sound

pub returns : goal.returns
returns g c = λ setup d r st.
    c.is_settled.ensures (standings c.args.self.now.sessions) (d.queue (c.args.at + 1))
    (st.queues c.args.at _ (item-here c.args.self.now.queues.items c.args.at _ c.requires.place c.index.ensures)).stands
    ∙ settled-told_at setup d c.args.self.now c.args.node c.args.at r st c.requires.node c.requires.place
