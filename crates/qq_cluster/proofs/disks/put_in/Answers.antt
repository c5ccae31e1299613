use Rattle.qq_cluster.specs.Disks.{GetsDisk}
use Rattle.qq_cluster.proofs.Logged.{turns-back}
use Rattle.qq_cluster.proofs.disks.put_in.Goals as goal

pub returns : goal.returns
returns g c =
    turns-back (GetsDisk c.args.disk) c.args.at c.args.nodes.now.items c.deref_mut.result.now c.put_at.new.nodes
    c.args.nodes.now.len c.deref_mut.ensures.value c.deref_mut.ensures.len c.put_at.ensures
