use Rattle.std.proofs.Common.{refl, sym, subst}
use Rattle.qq_model.specs.Gate.{add_answer}
use Rattle.qq_sessions.specs.Opened.{HaveOwners}
use Rattle.qq_sessions.proofs.Owners.{owners-change}
use Rattle.qq_sessions.proofs.sessions.Sessions.keep.Goals as goal

pub invariant_of-self : goal.invariant_of-self
invariant_of-self c =
    subst (λ ones. HaveOwners ones c.self.inside.workers.workers) (sym c.add_answer.ensures)
    (owners-change c.args.stamp.now.session (add_answer c.args.answer) c.self.inside.opened.rows c.self.inside.workers.workers (λ _. refl) c.self.invariant)
