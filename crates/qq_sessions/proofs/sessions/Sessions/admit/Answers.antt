use Rattle.std.proofs.Common.{refl, sym, subst}
use Rattle.qq_model.specs.Gate.{use_number}
use Rattle.qq_sessions.specs.Opened.{HaveOwners}
use Rattle.qq_sessions.proofs.Owners.{owners-change}
use Rattle.qq_sessions.proofs.sessions.Sessions.admit.Goals as goal

pub invariant_of-self : goal.invariant_of-self
invariant_of-self c =
    subst (λ ones. HaveOwners ones c.self.inside.workers.workers) (sym c.use_number.ensures.rows)
    (owners-change c.args.stamp.now.session (use_number c.args.stamp.now) c.self.inside.opened.rows c.self.inside.workers.workers (λ _. refl) c.self.invariant)
