use Rattle.std.proofs.Common.{sym, subst}
use Rattle.qq_sessions.specs.Rising.{Rises, number_key}
use Rattle.qq_sessions.proofs.Rising.{rises-put}
use Rattle.qq_sessions.proofs.ended.Ended.put.Goals as goal

pub invariant_of-self : goal.invariant_of-self
invariant_of-self c = subst (Rises number_key) (sym c.put.ensures) (rises-put number_key c.args.number _ c.self.invariant)
