use Rattle.std.proofs.Common.{arith}
use Rattle.qq_cluster.proofs.Items.{node-here, node-up}
use Rattle.qq_cluster.proofs.nodes.Nodes.is_up.Goals as goal

pub index-requires : goal.index-requires
index-requires g c = omega (arith, c.requires.0, c.requires.1)

pub returns : goal.returns
returns g c = λ setup d st.
    node-up c.args.node st c.requires (node-here c.args.self.now _ c.args.node c.requires c.index.ensures)
