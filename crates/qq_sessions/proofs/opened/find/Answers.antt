use Rattle.std.proofs.Common.{◌≡◌, Some, sym, ap, ◌∙◌}
use Rattle.std.proofs.lemmas.Map.Made.{lookup_key_passes}
use Rattle.qq_base.specs.declared.ids.SessionId.{SessionId}
use Rattle.qq_base.specs.Ids.{same_session}
use Rattle.qq_model.proofs.SessionLemmas.{same_session-true}
use Rattle.qq_sessions.specs.Opened.{Entry}
use Rattle.qq_sessions.proofs.opened.find.Goals as goal

pub returns-clause-place : goal.returns-clause-place
returns-clause-place c =
    let session = c.args.session in
    let key : SessionId = c.in_ok-place.field-0-1.now in
    let is : session ≡ key =
    same_session-true session key
    (lookup_key_passes (same_session session) c.args.rows.now.entries key (sym c.in_ok-place.ensures.key)) in
    c.in_ok-place.ensures.entry ∙ ap (λ (id : SessionId). let e : Entry = (id, c.in_ok-place.row.now) in Some e) (sym is)
