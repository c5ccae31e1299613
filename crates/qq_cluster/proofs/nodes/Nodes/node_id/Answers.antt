use Rattle.qq_cluster.proofs.Items.{item-here}
use Rattle.qq_cluster.proofs.nodes.Nodes.node_id.Goals as goal

pub returns : goal.returns
returns g c = λ setup d st. (st.nodes c.args.at _ (item-here c.args.self.now.nodes.items c.args.at _ c.requires c.index.ensures)).id_is
