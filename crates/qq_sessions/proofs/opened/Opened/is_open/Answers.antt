use Rattle.std.proofs.Common.{ap, ◌∙◌, ℕ, Bor, is_some}
use Rattle.qq_model.specs.Gate.{is_open}
use Rattle.qq_sessions.specs.declared.row.SessionRow.{SessionRow}
use Rattle.qq_sessions.specs.Opened.{OpenedState}
use Rattle.qq_sessions.proofs.OpenRows.{is_open-lookup, is_some-mapped}
use Rattle.qq_sessions.proofs.opened.Opened.is_open.Goals as goal

pub returns : goal.returns
returns c =
    c.is_some.ensures ∙ is_some-mapped (λ (p : ℕ × Bor SessionRow). p.1.now) c.find.result ∙ ap is_some c.find.ensures.row
    ∙ is_open-lookup c.args.session c.self.inside.rows.entries c.self.invariant.0.ids
    ∙ ap (λ (o : OpenedState). is_open c.args.session o.rows) c.self.view_is
