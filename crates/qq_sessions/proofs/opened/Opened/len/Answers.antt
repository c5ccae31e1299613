use Rattle.std.proofs.Common.{subst}
use Rattle.qq_sessions.specs.Opened.{OpenedState, AreApart}
use Rattle.qq_sessions.proofs.OpenRows.{apart-distinct}
use Rattle.qq_sessions.proofs.opened.Opened.len.Goals as goal

pub returns-clause-apart : goal.returns-clause-apart
returns-clause-apart c =
    subst (λ (o : OpenedState). AreApart o.rows) c.self.view_is
    (apart-distinct c.self.inside.rows.entries c.self.invariant.0.ids c.self.invariant.0.unique)
