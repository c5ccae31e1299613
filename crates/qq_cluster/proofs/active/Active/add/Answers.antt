use Rattle.qq_cluster.proofs.Rising.{rises-either}
use Rattle.qq_cluster.proofs.active.Active.add.Goals as goal

pub invariant_of-self : goal.invariant_of-self
invariant_of-self c =
    rises-either c.args.number c.put_in.result c.self.inside.numbers.items c.put_in.new.numbers.items c.self.invariant
    c.put_in.ensures.ok c.put_in.ensures.err
