use Rattle.std.proofs.Common.{List, [], ◌∷◌, filter, sym, ◌∙◌, subst}
use Rattle.std.proofs.lemmas.Bool.{cond-true, cond-false}
use Rattle.qq_model.specs.Gate.{is_giving_way}
use Rattle.qq_model.specs.declared.session.OpenSession.{OpenSession}
use Rattle.qq_live.specs.Indices.{Removes}
use Rattle.qq_sessions.specs.Row.{open_of}
use Rattle.qq_sessions.specs.Named.{kept_indices}
use Rattle.qq_sessions.proofs.Holders.{removes-nobody}
use Rattle.qq_sessions.proofs.open_sessions.let_go_if_earlier.Goals as goal

pub returns-then-is_giving_way-clause-named : goal.returns-then-is_giving_way-clause-named
returns-then-is_giving_way-clause-named c =
    subst (λ (ones : List OpenSession). Removes (kept_indices ones) c.args.named.now.indices
    c.let_go_all.new.named.indices)
    (sym (cond-true (is_giving_way c.args.session (open_of c.args.row.now)) (open_of c.args.row.now ∷ []) []
    (sym c.is_giving_way.ensures ∙ c.if-is_giving_way.true))) c.let_go_all.ensures.named

pub returns-else-is_giving_way-clause-named : goal.returns-else-is_giving_way-clause-named
returns-else-is_giving_way-clause-named c =
    removes-nobody (filter (is_giving_way c.args.session) (open_of c.args.row.now ∷ [])) c.args.named.now.indices
    (cond-false (is_giving_way c.args.session (open_of c.args.row.now)) (open_of c.args.row.now ∷ []) []
    (sym c.is_giving_way.ensures ∙ c.if-is_giving_way.false))
