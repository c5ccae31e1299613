use Rattle.std.proofs.Common.{sym, ap, ◌∙◌, is_some}
use Rattle.std.specs.HashMap.{spare}
use Rattle.std.proofs.lemmas.Bool.{false≢true}
use Rattle.std.proofs.lemmas.Option.{slice_get_within}
use Rattle.qq_model.specs.Gate.{change_session, add_answer}
use Rattle.qq_model.specs.declared.session.OpenSession.{OpenSession}
use Rattle.qq_sessions.specs.Opened.{OpenedState}
use Rattle.qq_sessions.proofs.OpenRows.{at-found, at-written, place-ids, place-changes, unchanged-absent, ids-held, room-open}
use Rattle.qq_sessions.proofs.opened.Opened.add_answer.Goals as goal

pub invariant_of-self : goal.invariant_of-self
invariant_of-self c = (ids-held _ _ _ c.self.invariant.0.ids c.self.invariant.0.unique, c.self.invariant.1)

pub invariant_of-self-2 : goal.invariant_of-self-2
invariant_of-self-2 c =
    let m = c.self.inside.rows in
    let row = c.in-Some-get_index_mut.row.now in
    let w = c.add_answer.new.row in
    let old = c.in-Some.field-0-1.now in
    let value = c.in-Some-get_index_mut.ensures.value in
    let wrote =
    at-written c.args.session m c.in-Some.place old row w c.in-Some.ensures.place value c.self.invariant.0.unique in (
      ids-held _ _ _
          (place-ids c.args.session m c.in-Some.place old row w c.in-Some.ensures.place value c.in-Some.ensures.row
          (is_some c.self.inside.at_hand) c.self.inside.room c.self.invariant.0
          (ap (λ (o : OpenSession). o.session) c.add_answer.ensures)) wrote.4,
      c.self.invariant.1,
    )

pub returns-clause-rows : goal.returns-clause-rows
returns-clause-rows c =
    let value = c.in-Some-get_index_mut.ensures.value in
    place-changes c.args.session c.self.inside.rows c.in-Some.place c.in-Some.field-0-1.now
    c.in-Some-get_index_mut.row.now c.add_answer.new.row c.in-Some.ensures.place value c.in-Some.ensures.row
    (is_some c.self.inside.at_hand) c.self.inside.room c.self.invariant.0 (add_answer c.args.answer) c.add_answer.ensures
    ∙ ap (λ (o : OpenedState). change_session c.args.session (add_answer c.args.answer) o.rows) c.self.view_is

pub returns-in_default-clause-rows : goal.returns-in_default-clause-rows
returns-in_default-clause-rows c =
    unchanged-absent c.args.session (add_answer c.args.answer) c.self.inside.rows.entries c.self.invariant.0.ids
    (sym c.in_default.ensures.row)
    ∙ ap (λ (o : OpenedState). change_session c.args.session (add_answer c.args.answer) o.rows) c.self.view_is

pub unreachable-requires : goal.unreachable-requires
unreachable-requires c =
    false≢true (c.in_default-get_index_mut.ensures.found.1
    (slice_get_within c.self.inside.rows.entries c.in-Some.place _ c.in-Some.ensures.place))

pub add_answer-requires : goal.add_answer-requires
add_answer-requires c =
    let row = c.in-Some-get_index_mut.row.now in
    let found =
    at-found c.args.session c.self.inside.rows c.in-Some.place c.in-Some.field-0-1.now row row c.in-Some.ensures.place
    c.in-Some-get_index_mut.ensures.value c.in-Some.ensures.row in
    room-open c.self.inside.room c.args.session c.self.inside.rows.entries (spare c.self.inside.rows)
    (is_some c.self.inside.at_hand) row c.self.invariant.0.room
    (ap (λ (o : OpenedState). o.room) c.self.view_is ∙ c.requires) (sym found)
