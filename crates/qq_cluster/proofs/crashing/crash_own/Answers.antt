use Rattle.std.proofs.Common.{refl}
use Rattle.qq_cluster.proofs.Crashed.{crashed}
use Rattle.qq_cluster.proofs.crashing.crash_own.Goals as goal

pub returns-in-Ok-clause-ok : goal.returns-in-Ok-clause-ok
returns-in-Ok-clause-ok g c =
    crashed c.args.image.now c.args.node.now _ c.in-Some.log c.in-Ok.left (cc) c.in-Ok.ensures.left c.in-Ok.ensures.told
    c.in-Ok.ensures.stands refl
