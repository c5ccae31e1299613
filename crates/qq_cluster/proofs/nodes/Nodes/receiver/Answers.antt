use Rattle.std.proofs.Common.{◌+◌, ◌-◌}
use Rattle.qq_queue.specs.Sessions.{standings}
use Rattle.qq_cluster.proofs.Items.{item-here}
use Rattle.qq_cluster.proofs.OnTheWay.{receiver-node}
use Rattle.qq_cluster.proofs.nodes.Nodes.receiver.Goals as goal

pub returns-clause-receiver : goal.returns-clause-receiver
returns-clause-receiver g c = λ setup d st.
    c.receiver.ensures (standings c.args.self.now.sessions) (d.queue (c.args.at + 1))
    (st.queues c.args.at _ (item-here c.args.self.now.queues.items c.args.at _ c.requires.place c.index.ensures)).stands

pub returns-clause-node : goal.returns-clause-node
returns-clause-node g c =
    receiver-node c.a_message_is_from_one_member_to_another.ensures c.args.self.now c.args.at (c.args.message - 1)
    c.receiver.result c.requires.serve c.requires.place
    (λ setup d st. c.receiver.ensures (standings c.args.self.now.sessions) (d.queue (c.args.at + 1))
    (st.queues c.args.at _ (item-here c.args.self.now.queues.items c.args.at _ c.requires.place c.index.ensures)).stands)
