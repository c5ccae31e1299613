use Rattle.std.proofs.Common.{◌≡◌, sym, ap, ◌∙◌, subst, is_some}
use Rattle.std.proofs.lemmas.Bool.{false≢true}
use Rattle.std.proofs.lemmas.Option.{slice_get_within}
use Rattle.qq_model.specs.Gate.{change_session, set_tag}
use Rattle.qq_model.specs.declared.session.OpenSession.{OpenSession}
use Rattle.qq_sessions.specs.Opened.{OpenedState}
use Rattle.qq_sessions.proofs.OpenRows.{place-held, place-changes, unchanged-absent}
use Rattle.qq_sessions.proofs.opened.Opened.set_tag.Goals as goal

pub invariant_of-self : goal.invariant_of-self
invariant_of-self c =
    let value = c.in-Some-get_index_mut.ensures.value in (
      place-held c.args.session c.self.inside.rows c.in-Some.place c.in-Some.field-0-1.now
          c.in-Some-get_index_mut.row.now c.set_tag.new.row c.in-Some.ensures.place value c.in-Some.ensures.row
          (is_some c.self.inside.at_hand) c.self.inside.room c.self.invariant.0
          (ap (λ (o : OpenSession). o.session) c.set_tag.ensures.ok) c.set_tag.ensures.slots,
      c.self.invariant.1,
    )

pub returns-clause-rows : goal.returns-clause-rows
returns-clause-rows c =
    let value = c.in-Some-get_index_mut.ensures.value in
    place-changes c.args.session c.self.inside.rows c.in-Some.place c.in-Some.field-0-1.now
    c.in-Some-get_index_mut.row.now c.set_tag.new.row c.in-Some.ensures.place value c.in-Some.ensures.row
    (is_some c.self.inside.at_hand) c.self.inside.room c.self.invariant.0 (set_tag c.args.tag) c.set_tag.ensures.ok
    ∙ ap (λ (o : OpenedState). change_session c.args.session (set_tag c.args.tag) o.rows) c.self.view_is

pub returns-in_default-clause-rows : goal.returns-in_default-clause-rows
returns-in_default-clause-rows c =
    subst (λ (o : OpenedState). o.rows ≡ change_session c.args.session (set_tag c.args.tag) o.rows) c.self.view_is
    (unchanged-absent c.args.session (set_tag c.args.tag) c.self.inside.rows.entries c.self.invariant.0.ids
    (sym c.in_default.ensures.row))

pub unreachable-requires : goal.unreachable-requires
unreachable-requires c =
    false≢true (c.in_default-get_index_mut.ensures.found.1
    (slice_get_within c.self.inside.rows.entries c.in-Some.place _ c.in-Some.ensures.place))
