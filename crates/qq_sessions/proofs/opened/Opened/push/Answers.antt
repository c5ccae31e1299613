use Rattle.std.proofs.Common.{◌≡◌, [], ◌∷◌, ◌++◌, false, refl, sym, ap, ◌∙◌, subst}
use Rattle.std.specs.List.{AllByRecursion}
use Rattle.indexmap.proofs.CallerLemmas.{insert_entry-new}
use Rattle.qq_base.specs.Ids.{same_session}
use Rattle.qq_base.proofs.Lists.{AllByRecursion-append}
use Rattle.qq_model.specs.Gate.{is_open}
use Rattle.qq_sessions.specs.Row.{open_of}
use Rattle.qq_sessions.specs.Opened.{OpenedState, HasOwnId, sessions_of}
use Rattle.qq_sessions.proofs.OpenRows.{absent-closed, pushed, ids-held}
use Rattle.qq_sessions.proofs.opened.Opened.push.Goals as goal

pub invariant_of-self : goal.invariant_of-self
invariant_of-self c = (
  ids-held _ _ _ (subst (AllByRecursion HasOwnId) (sym c.in_err-insert.ensures.err) c.self.invariant.0.ids)
      c.insert.ensures.unique,
  c.self.invariant.1,
)

-- the row goes last
entries-are : (c : goal.Joined-branch-2)
    → c.insert.new.self.entries ≡ c.self.inside.rows.entries ++ (c.args.row.session, c.args.row) ∷ []
entries-are c =
    let closed : is_open c.args.row.session (sessions_of c.self.inside.rows.entries) ≡ false =
    ap (λ (o : OpenedState). is_open c.args.row.session o.rows) c.self.view_is ∙ c.requires in
    c.in_ok-insert.ensures.entries
    ∙ insert_entry-new same_session c.self.inside.rows c.args.row.session c.args.row
    (absent-closed c.args.row.session c.self.inside.rows.entries c.self.invariant.0.ids closed)

pub invariant_of-self-2 : goal.invariant_of-self-2
invariant_of-self-2 c = (
  ids-held _ _ _ (subst (AllByRecursion HasOwnId) (sym (entries-are c))
      (AllByRecursion-append HasOwnId c.self.inside.rows.entries ((c.args.row.session, c.args.row) ∷ [])
      c.self.invariant.0.ids (refl, tt))) c.insert.ensures.unique,
  c.self.invariant.1,
)

pub returns-clause-ok : goal.returns-clause-ok
returns-clause-ok c =
    ap sessions_of (entries-are c) ∙ pushed c.self.inside.rows.entries (c.args.row.session, c.args.row)
    ∙ ap (λ (o : OpenedState). o.rows ++ open_of c.args.row ∷ []) c.self.view_is
