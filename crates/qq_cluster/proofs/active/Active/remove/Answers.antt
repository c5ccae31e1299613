use Rattle.std.proofs.Common.{sym, subst}
use Rattle.qq_cluster.specs.Active.{AreRising}
use Rattle.qq_cluster.proofs.Rising.{remove-rises}
use Rattle.qq_cluster.proofs.active.Active.remove.Goals as goal

pub invariant_of-self : goal.invariant_of-self
invariant_of-self c =
    subst AreRising (sym c.remove.ensures.items)
    (remove-rises c.self.inside.numbers.items c.args.place c.self.invariant)
