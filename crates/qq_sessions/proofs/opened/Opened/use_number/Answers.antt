use Rattle.std.proofs.Common.{◌≡◌, ◌+◌, ◌<◌, ◌^◌, Option, sym, ap, ◌∙◌, subst, is_some}
use Rattle.std.specs.Option.{option_map}
use Rattle.std.proofs.lemmas.Bool.{false≢true}
use Rattle.std.proofs.lemmas.Option.{slice_get_within}
use Rattle.qq_model.specs.Gate.{session_of, is_open, change_session, use_number}
use Rattle.qq_model.specs.declared.session.OpenSession.{OpenSession}
use Rattle.qq_sessions.specs.Opened.{OpenedState}
use Rattle.qq_sessions.proofs.OpenRows.{at-found, place-held, place-changes, unchanged-absent, session_of-lookup, is_open-lookup}
use Rattle.qq_sessions.specs.Row.{open_of}
use Rattle.qq_sessions.specs.Known.{next_by}
use Rattle.qq_sessions.proofs.opened.Opened.use_number.Goals as goal

pub invariant_of-self : goal.invariant_of-self
invariant_of-self c =
    let value = c.in-Some-get_index_mut.ensures.value in (
      place-held c.args.stamp.now.session c.self.inside.rows c.in-Some.place c.in-Some.field-0-1.now
          c.in-Some-get_index_mut.row.now c.use_number.new.row c.in-Some.ensures.place value c.in-Some.ensures.row
          (is_some c.self.inside.at_hand) c.self.inside.room c.self.invariant.0
          (ap (λ (o : OpenSession). o.session) c.use_number.ensures.ok) c.use_number.ensures.slots,
      c.self.invariant.1,
    )

pub returns-clause-value : goal.returns-clause-value
returns-clause-value c =
    ap is_some c.in-Some.ensures.row
    ∙ is_open-lookup c.args.stamp.now.session c.self.inside.rows.entries c.self.invariant.0.ids
    ∙ ap (λ (o : OpenedState). is_open c.args.stamp.now.session o.rows) c.self.view_is

pub returns-in_default-clause-value : goal.returns-in_default-clause-value
returns-in_default-clause-value c =
    ap is_some c.in_default.ensures.row
    ∙ is_open-lookup c.args.stamp.now.session c.self.inside.rows.entries c.self.invariant.0.ids
    ∙ ap (λ (o : OpenedState). is_open c.args.stamp.now.session o.rows) c.self.view_is

pub returns-clause-rows : goal.returns-clause-rows
returns-clause-rows c =
    let value = c.in-Some-get_index_mut.ensures.value in
    place-changes c.args.stamp.now.session c.self.inside.rows c.in-Some.place c.in-Some.field-0-1.now
    c.in-Some-get_index_mut.row.now c.use_number.new.row c.in-Some.ensures.place value c.in-Some.ensures.row
    (is_some c.self.inside.at_hand) c.self.inside.room c.self.invariant.0 (use_number c.args.stamp.now) c.use_number.ensures.ok
    ∙ ap (λ (o : OpenedState). change_session c.args.stamp.now.session (use_number c.args.stamp.now) o.rows) c.self.view_is

pub returns-in_default-clause-rows : goal.returns-in_default-clause-rows
returns-in_default-clause-rows c =
    subst (λ (o : OpenedState). o.rows ≡ change_session c.args.stamp.now.session (use_number c.args.stamp.now) o.rows) c.self.view_is
    (unchanged-absent c.args.stamp.now.session (use_number c.args.stamp.now) c.self.inside.rows.entries c.self.invariant.0.ids
    (sym c.in_default.ensures.row))

pub unreachable-requires : goal.unreachable-requires
unreachable-requires c =
    false≢true (c.in_default-get_index_mut.ensures.found.1
    (slice_get_within c.self.inside.rows.entries c.in-Some.place _ c.in-Some.ensures.place))

pub use_number-requires : goal.use_number-requires
use_number-requires c =
    let id = c.args.stamp.now.session in
    let m = c.self.inside.rows in
    let row = c.in-Some-get_index_mut.row.now in
    let found =
    at-found id m c.in-Some.place c.in-Some.field-0-1.now row row c.in-Some.ensures.place
    c.in-Some-get_index_mut.ensures.value c.in-Some.ensures.row in
    subst (λ (o : Option OpenSession). next_by o + 1 < 2 ^ 64)
    (sym (ap (option_map open_of) found ∙ session_of-lookup id m.entries c.self.invariant.0.ids
    ∙ ap (λ (o : OpenedState). session_of id o.rows) c.self.view_is)) c.requires
