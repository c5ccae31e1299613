use Rattle.qq_cluster.proofs.Putting.{gives-disk}
use Rattle.qq_cluster.proofs.disks.take_own.Goals as goal

pub returns : goal.returns
returns g c =
    gives-disk c.args.node.now c.take.new.self c.in-Some.log c.into_disk.result c.take.ensures.after (cc) c.into_disk.ensures
