use Rattle.std.proofs.Common.{sym, subst}
use Rattle.qq_sessions.specs.Rising.{Rises, owner_key}
use Rattle.qq_sessions.proofs.Rising.{rises-put}
use Rattle.qq_sessions.proofs.workers.Workers.put.Goals as goal

pub invariant_of-self : goal.invariant_of-self
invariant_of-self c = subst (Rises owner_key) (sym c.put.ensures) (rises-put owner_key c.args.worker _ c.self.invariant)
