use Rattle.std.proofs.Common.{sym, subst}
use Rattle.qq_cluster_run.specs.Named.{AreNodes}
use Rattle.qq_cluster_run.specs.Setup.{cluster_over}
use Rattle.qq_cluster_run.proofs.checking.is_one.Goals as goal

pub returns-in-One : goal.returns-in-One
returns-in-One c =
    λ logs is. subst (AreNodes (cluster_over c.args.setup.now logs)) (sym c.in-One.is) (c.is_node.ensures is)
