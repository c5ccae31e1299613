use Rattle.std.proofs.Common.{◌≡◌, List, [], ◌∷◌, ◌++◌, map, sym, ap, ◌∙◌, subst}
use Rattle.std.proofs.lemmas.List.{append_assoc}
use Rattle.qq_model.specs.declared.session.OpenSession.{OpenSession}
use Rattle.qq_sessions.specs.declared.row.SessionRow.{SessionRow}
use Rattle.qq_sessions.specs.Row.{open_of}
use Rattle.qq_sessions.specs.Opened.{AreApart}
use Rattle.qq_sessions.proofs.OpenRows.{apart-middle}
use Rattle.qq_sessions.proofs.opened.Opened.from_rows.Goals as goal

pub push-requires : goal.push-requires
push-requires c =
    let done : List OpenSession = c.rows.opened.rows in
    let rest : List SessionRow = c.pop_front.new.self.items in
    let all : map open_of c.args.rows.items ≡ done ++ open_of c.in-Some.row ∷ map open_of rest =
    sym (ap (λ (rows : List SessionRow). done ++ map open_of rows) (sym c.in-Some.ensures.items) ∙ c.rows.invariant.0) in
    apart-middle done (open_of c.in-Some.row) (map open_of rest) (subst AreApart all c.requires)

pub rows-preserved : goal.rows-preserved
rows-preserved c =
    let done : List OpenSession = c.rows.opened.rows in
    let rest : List SessionRow = c.pop_front.new.self.items in (
      ap (λ (ones : List OpenSession). ones ++ map open_of rest) c.in_ok-push.ensures.ok
          ∙ append_assoc done (open_of c.in-Some.row ∷ []) (map open_of rest)
          ∙ ap (λ (rows : List SessionRow). done ++ map open_of rows) (sym c.in-Some.ensures.items) ∙ c.rows.invariant.0,
      c.push.ensures.room,
    )
