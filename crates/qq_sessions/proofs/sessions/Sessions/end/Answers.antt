use Rattle.std.proofs.Common.{not, sym, subst}
use Rattle.qq_base.specs.Ids.{same_session}
use Rattle.qq_sessions.specs.Opened.{HaveOwners}
use Rattle.qq_sessions.proofs.Owners.{owners-filter}
use Rattle.qq_sessions.proofs.sessions.Sessions.end.Goals as goal

pub invariant_of-self : goal.invariant_of-self
invariant_of-self c =
    subst (λ ones. HaveOwners ones c.self.inside.workers.workers) (sym c.remove.ensures)
    (owners-filter (λ one. not (same_session one.session c.args.session)) c.self.inside.opened.rows
    c.self.inside.workers.workers c.self.invariant)

pub invariant_of-self-else-session-eq-CLIENT : goal.invariant_of-self-else-session-eq-CLIENT
invariant_of-self-else-session-eq-CLIENT c =
    subst (λ ones. HaveOwners ones c.self.inside.workers.workers) (sym c.remove.ensures)
    (owners-filter (λ one. not (same_session one.session c.args.session)) c.self.inside.opened.rows
    c.self.inside.workers.workers c.self.invariant)
