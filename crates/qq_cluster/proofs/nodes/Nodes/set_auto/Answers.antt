use Rattle.qq_cluster.proofs.OneQueue.{served-auto}
use Rattle.qq_cluster.proofs.nodes.Nodes.set_auto.Goals as goal

pub returns : goal.returns
returns g c = λ text. served-auto c.args.auto c.args.self.now text
