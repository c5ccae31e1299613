use Rattle.std.proofs.Common.{List, [], ◌∷◌, ◌++◌, take, sym, ap, ◌∙◌, subst}
use Rattle.qq_base.specs.declared.ids.ConsumerId.{ConsumerId}
use Rattle.qq_parts.specs.Parts.{Served, HasOut}
use Rattle.qq_consumer.specs.Roster.{served_of, is_there}
use Rattle.qq_consumer.proofs.Copying.{take-at, each-at, free-before, given-row}
use Rattle.qq_consumer.proofs.joined.Joined.copy_into.Goals as goal

pub push-requires-clause-free : goal.push-requires-clause-free
push-requires-clause-free c =
    let one : Served = served_of c.row.result.now in
    ap (λ (id : ConsumerId). is_there id c.rows.twin.served)
    (ap (λ (o : Served). o.consumer.id) c.in_ok-copy_row.ensures.ok)
    ∙ ap (is_there one.consumer.id) c.rows.invariant
    ∙ free-before c.args.self.now.served c.rows.place one c.len-place-end.ensures.apart c.row.ensures

pub push-requires-clause-given : goal.push-requires-clause-given
push-requires-clause-given c =
    given-row c.in_ok-copy_row.field-0
    (subst HasOut (sym c.in_ok-copy_row.ensures.ok)
    (each-at HasOut c.args.self.now.served c.rows.place (served_of c.row.result.now) c.len-place-end.ensures.out c.row.ensures))

pub rows-preserved : goal.rows-preserved
rows-preserved c =
    let ones : List Served = c.args.self.now.served in
    c.in_ok-push.ensures.ok
    ∙ ap (λ (twins : List Served). twins ++ served_of c.in_ok-copy_row.field-0 ∷ []) c.rows.invariant
    ∙ ap (λ (o : Served). take c.rows.place ones ++ o ∷ []) c.in_ok-copy_row.ensures.ok
    ∙ sym (take-at ones c.rows.place (served_of c.row.result.now) c.row.ensures)
