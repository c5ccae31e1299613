use Rattle.std.proofs.Common.{ap, ◌∙◌, subst}
use Rattle.std.specs.Option.{option_map}
use Rattle.qq_model.specs.Gate.{session_of}
use Rattle.qq_sessions.specs.Row.{open_of}
use Rattle.qq_sessions.specs.Opened.{OpenedState, AreApart}
use Rattle.qq_sessions.proofs.OpenRows.{apart-distinct, session_of-lookup}
use Rattle.qq_sessions.proofs.opened.Opened.session_of.Goals as goal

pub returns-in-None-clause-one : goal.returns-in-None-clause-one
returns-in-None-clause-one c =
    ap (option_map open_of) c.in-None.ensures.row
    ∙ session_of-lookup c.args.session c.self.inside.rows.entries c.self.invariant.0.ids
    ∙ ap (λ (o : OpenedState). session_of c.args.session o.rows) c.self.view_is

pub returns-in-Some-clause-one : goal.returns-in-Some-clause-one
returns-in-Some-clause-one c =
    ap (option_map open_of) c.in-Some.ensures.row
    ∙ session_of-lookup c.args.session c.self.inside.rows.entries c.self.invariant.0.ids
    ∙ ap (λ (o : OpenedState). session_of c.args.session o.rows) c.self.view_is

pub returns-in-None-clause-apart : goal.returns-in-None-clause-apart
returns-in-None-clause-apart c =
    subst (λ (o : OpenedState). AreApart o.rows) c.self.view_is
    (apart-distinct c.self.inside.rows.entries c.self.invariant.0.ids c.self.invariant.0.unique)

pub returns-in-Some-clause-apart : goal.returns-in-Some-clause-apart
returns-in-Some-clause-apart c =
    subst (λ (o : OpenedState). AreApart o.rows) c.self.view_is
    (apart-distinct c.self.inside.rows.entries c.self.invariant.0.ids c.self.invariant.0.unique)
