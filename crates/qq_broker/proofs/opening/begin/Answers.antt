use Rattle.std.proofs.Common.{List, ℕ, Option, subst}
use Rattle.qq_broker.specs.Lives.{under}
use Rattle.qq_broker.specs.Serving.{AreGiven}
use Rattle.qq_broker.proofs.opening.begin.Goals as goal

pub returns-in-Ok-clause-ok : goal.returns-in-Ok-clause-ok
returns-in-Ok-clause-ok g c =
    let disk = g.Y.Disk.NodeDisk in
    c.in-Ok.ensures.ok (under g.Y.Yard.is_given c.args.root.now)
    (subst (λ (root : Option (List ℕ)). AreGiven (under g.Y.Yard.is_given root) disk.facts c.in_ok-disks.disks.items)
    c.path_of.ensures c.in_ok-disks.ensures.given)
