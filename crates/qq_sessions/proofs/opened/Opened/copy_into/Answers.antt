use Rattle.std.proofs.Common.{List, [], ◌∷◌, ◌++◌, take, sym, ap, ◌∙◌}
use Rattle.qq_base.specs.declared.ids.SessionId.{SessionId}
use Rattle.qq_model.specs.declared.session.OpenSession.{OpenSession}
use Rattle.qq_model.specs.Gate.{is_open}
use Rattle.qq_sessions.specs.Row.{open_of}
use Rattle.qq_sessions.proofs.OpenRows.{apart-before}
use Rattle.qq_sessions.proofs.Places.{take-at}
use Rattle.qq_sessions.proofs.opened.Opened.copy_into.Goals as goal

pub push-requires : goal.push-requires
push-requires c =
    let one : OpenSession = open_of c.row.result.now in
    ap (λ (id : SessionId). is_open id c.rows.twin.rows)
    (ap (λ (o : OpenSession). o.session) c.in_ok-copy_row.ensures.ok)
    ∙ ap (is_open one.session) c.rows.invariant.0
    ∙ apart-before c.args.self.now.rows c.rows.place one c.len-len.ensures.apart c.row.ensures

pub rows-preserved : goal.rows-preserved
rows-preserved c =
    let rows : List OpenSession = c.args.self.now.rows in (
      c.in_ok-push.ensures.ok
          ∙ ap (λ (ones : List OpenSession). ones ++ open_of c.in_ok-copy_row.field-0 ∷ []) c.rows.invariant.0
          ∙ ap (λ (o : OpenSession). take c.rows.place rows ++ o ∷ []) c.in_ok-copy_row.ensures.ok
          ∙ sym (take-at rows c.rows.place (open_of c.row.result.now) c.row.ensures),
      c.push.ensures.room,
    )
