use Rattle.std.proofs.Common.{refl, sym, subst}
use Rattle.qq_model.specs.Gate.{set_tag}
use Rattle.qq_sessions.specs.Opened.{HaveOwners}
use Rattle.qq_sessions.proofs.Owners.{owners-change}
use Rattle.qq_sessions.proofs.sessions.Sessions.take_tag.Goals as goal

pub invariant_of-self : goal.invariant_of-self
invariant_of-self c =
    subst (λ ones. HaveOwners ones c.self.inside.workers.workers) (sym c.set_tag.ensures.rows)
    (owners-change c.args.session (set_tag c.args.tag) c.self.inside.opened.rows c.self.inside.workers.workers (λ _. refl) c.self.invariant)
