use Rattle.std.proofs.Common.{None, fold, ap, ◌∙◌}
use Rattle.qq_sessions.specs.Opened.{OpenedState}
use Rattle.qq_sessions.specs.KeptLow.{low_of_session}
use Rattle.qq_sessions.proofs.Lows.{held-low}
use Rattle.qq_sessions.proofs.open_sessions.OpenSessions.kept_low.Goals as goal

pub returns : goal.returns
returns c =
    c.low.ensures ∙ held-low c.self.inside.named.indices c.self.inside.opened.rows c.self.invariant.held
    ∙ ap (λ (o : OpenedState). fold low_of_session None o.rows) c.self.view_is
