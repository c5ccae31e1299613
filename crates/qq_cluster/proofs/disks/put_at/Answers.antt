use Rattle.qq_cluster.specs.Disks.{GetsDisk}
use Rattle.qq_cluster.proofs.Logged.{node-turns}
use Rattle.qq_cluster.proofs.disks.put_at.Goals as goal

pub returns : goal.returns
returns g c =
    node-turns (GetsDisk c.args.disk) c.args.at c.args.nodes.now _ c.put_own.new.node c.requires c.put_own.ensures
