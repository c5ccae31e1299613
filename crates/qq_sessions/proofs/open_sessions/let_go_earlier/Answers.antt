use Rattle.std.proofs.Common.{◌+◌, Bool, List, [], ◌∷◌, filter, take, subst, arith}
use Rattle.qq_model.specs.Gate.{is_giving_way}
use Rattle.qq_model.specs.declared.session.OpenSession.{OpenSession}
use Rattle.qq_live.specs.Indices.{Removes}
use Rattle.qq_sessions.specs.Row.{open_of}
use Rattle.qq_sessions.specs.Named.{kept_indices}
use Rattle.qq_sessions.proofs.Holders.{kept-take, take-end, none-earlier, removes-nobody, removes-then}
use Rattle.qq_sessions.proofs.open_sessions.let_go_earlier.Goals as goal

pub returns-then-not-ends_earlier-clause-named : goal.returns-then-not-ends_earlier-clause-named
returns-then-not-ends_earlier-clause-named c =
    removes-nobody (filter (is_giving_way c.args.session) c.args.opened.now.rows) c.args.named.now.indices
    (none-earlier (is_giving_way c.args.session) c.args.opened.now.rows (c.requires c.if-not-ends_earlier.true))

pub rows-preserved : goal.rows-preserved
rows-preserved c =
    let rows : List OpenSession = c.args.opened.now.rows in
    let goes : OpenSession → Bool = is_giving_way c.args.session in
    let one : OpenSession = open_of c.row.result.now in (
      removes-then (kept_indices (filter goes (take c.rows.place rows))) (kept_indices (filter goes (one ∷ [])))
          (kept_indices (filter goes (take (c.rows.place + 1) rows))) c.args.named.now.indices c.rows.named.indices
          c.let_go_if_earlier.new.named.indices (kept-take goes rows c.rows.place one c.row.ensures)
          c.rows.invariant.0 c.let_go_if_earlier.ensures.named,
      λ room. c.let_go_if_earlier.ensures.room (c.rows.invariant.1 room),
    )

pub returns-clause-named : goal.returns-clause-named
returns-clause-named c =
    subst (λ (ones : List OpenSession). Removes (kept_indices (filter (is_giving_way c.args.session) ones))
    c.args.named.now.indices c.rows.named.indices)
    (take-end c.args.opened.now.rows c.rows.place (omega (arith, c.rows-test.false))) c.rows.invariant.0
