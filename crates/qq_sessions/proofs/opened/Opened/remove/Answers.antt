use Rattle.std.proofs.Common.{Bool, not, sym, ap, ◌∙◌, subst, filter}
use Rattle.std.specs.List.{AllByRecursion}
use Rattle.qq_base.specs.Ids.{same_session}
use Rattle.qq_model.specs.declared.session.OpenSession.{OpenSession}
use Rattle.qq_sessions.specs.Opened.{OpenedState, HasOwnId, sessions_of}
use Rattle.qq_sessions.proofs.OpenRows.{removed, own-remove_entry, ids-held}
use Rattle.qq_sessions.proofs.opened.Opened.remove.Goals as goal

pub invariant_of-self : goal.invariant_of-self
invariant_of-self c = (
  ids-held _ _ _ (subst (AllByRecursion HasOwnId) (sym c.shift_remove.ensures.entries)
      (own-remove_entry c.args.session c.self.inside.rows.entries c.self.invariant.0.ids)) c.shift_remove.ensures.unique,
  c.self.invariant.1,
)

pub returns-clause-rows : goal.returns-clause-rows
returns-clause-rows c =
    let stays : OpenSession → Bool = λ one. not (same_session one.session c.args.session) in
    ap sessions_of c.shift_remove.ensures.entries
    ∙ removed c.args.session c.self.inside.rows.entries c.self.invariant.0.ids c.self.invariant.0.unique
    ∙ ap (λ (o : OpenedState). filter stays o.rows) c.self.view_is
