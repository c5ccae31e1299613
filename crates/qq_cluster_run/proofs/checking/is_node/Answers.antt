use Rattle.std.proofs.lemmas.Bool.{leb-true}
use Rattle.qq_cluster_run.proofs.Checked.{node-there}
use Rattle.qq_cluster_run.proofs.checking.is_node.Goals as goal

pub returns-then-node-gt0 : goal.returns-then-node-gt0
returns-then-node-gt0 c =
    λ is. node-there c.args.setup.now.nodes c.args.node.0 c.if-node-gt0.true
    (leb-true c.args.node.0 c.args.setup.now.nodes is)
