use Rattle.std.proofs.Common.{refl, sym, subst}
use Rattle.qq_model.specs.Gate.{raise_mark}
use Rattle.qq_sessions.specs.Opened.{HaveOwners}
use Rattle.qq_sessions.proofs.Owners.{owners-change}
use Rattle.qq_sessions.proofs.sessions.Sessions.advance.Goals as goal

pub invariant_of-self : goal.invariant_of-self
invariant_of-self c =
    subst (λ ones. HaveOwners ones c.self.inside.workers.workers) (sym c.raise_mark.ensures.rows)
    (owners-change c.args.stamp.now.session (raise_mark c.args.stamp.now) c.self.inside.opened.rows c.self.inside.workers.workers (λ _. refl) c.self.invariant)
