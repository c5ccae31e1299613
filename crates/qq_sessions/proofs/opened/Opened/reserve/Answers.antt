use Rattle.std.proofs.Common.{arith, ◌≡◌, ◌+◌, ◌<◌, ◌^◌, List, Option, Some, sym, ap, ◌∙◌, subst, is_some}
use Rattle.std.specs.List.{AllByRecursion}
use Rattle.std.specs.Map.{lookup}
use Rattle.std.specs.HashMap.{spare}
use Rattle.qq_base.specs.Ids.{same_session}
use Rattle.qq_sessions.specs.declared.row.SessionRow.{SessionRow}
use Rattle.std.specs.Option.{option_map}
use Rattle.qq_model.specs.Gate.{session_of}
use Rattle.qq_model.specs.declared.session.OpenSession.{OpenSession}
use Rattle.qq_sessions.specs.Row.{open_of}
use Rattle.qq_sessions.specs.Known.{next_by}
use Rattle.qq_sessions.specs.Opened.{OpenedState, HasOwnId, HasRoomBy, sessions_of}
use Rattle.indexmap.specs.IndexMap.{with_value_at}
use Rattle.std.proofs.lemmas.Bool.{false≢true}
use Rattle.std.proofs.lemmas.Option.{slice_get_within}
use Rattle.qq_sessions.proofs.OpenRows.{same-ids, write-same, ids-held, at-found, at-written, session_of-lookup}
use Rattle.qq_sessions.proofs.opened.Opened.reserve.Goals as goal

pub invariant_of-self-in_err-reserve_slot : goal.invariant_of-self-in_err-reserve_slot
invariant_of-self-in_err-reserve_slot c =
    let wrote =
    at-written c.args.session c.reserve.new.self c.in-Some.place c.in-Some.row.now
    c.in-Some-get_index_mut.row.now c.reserve_slot.new.row c.in-Some.ensures.place c.in-Some-get_index_mut.ensures.value
    c.get_index_mut.ensures.unique in
    let found =
    at-found c.args.session c.reserve.new.self c.in-Some.place c.in-Some.row.now
    c.in-Some-get_index_mut.row.now c.reserve_slot.new.row c.in-Some.ensures.place c.in-Some-get_index_mut.ensures.value
    c.in-Some.ensures.row in
    let ids = subst (AllByRecursion HasOwnId) (sym c.reserve.ensures.entries) c.self.invariant.0.ids in (
      ids-held _ _ _ (same-ids c.args.session c.reserve.new.self (with_value_at c.reserve.new.self c.in-Some.place c.reserve_slot.new.row)
          c.in-Some-get_index_mut.row.now c.reserve_slot.new.row ids found wrote c.reserve_slot.ensures.same)
          wrote.4,
      c.hold_ready.ensures.ready,
    )

pub returns-in_err-reserve_slot-clause-same : goal.returns-in_err-reserve_slot-clause-same
returns-in_err-reserve_slot-clause-same c =
    write-same c.args.session c.reserve.new.self (with_value_at c.reserve.new.self c.in-Some.place c.reserve_slot.new.row) c.in-Some-get_index_mut.row.now
    c.reserve_slot.new.row
    (at-found c.args.session c.reserve.new.self c.in-Some.place c.in-Some.row.now
    c.in-Some-get_index_mut.row.now c.reserve_slot.new.row c.in-Some.ensures.place c.in-Some-get_index_mut.ensures.value
    c.in-Some.ensures.row)
    (at-written c.args.session c.reserve.new.self c.in-Some.place c.in-Some.row.now
    c.in-Some-get_index_mut.row.now c.reserve_slot.new.row c.in-Some.ensures.place c.in-Some-get_index_mut.ensures.value
    c.get_index_mut.ensures.unique)
    c.reserve_slot.ensures.same
    ∙ ap sessions_of c.reserve.ensures.entries ∙ ap (λ (o : OpenedState). o.rows) c.self.view_is

pub invariant_of-self-2 : goal.invariant_of-self-2
invariant_of-self-2 c =
    let wrote =
    at-written c.args.session c.reserve.new.self c.in-Some.place c.in-Some.row.now
    c.in-Some-get_index_mut.row.now c.reserve_slot.new.row c.in-Some.ensures.place c.in-Some-get_index_mut.ensures.value
    c.get_index_mut.ensures.unique in
    let found =
    at-found c.args.session c.reserve.new.self c.in-Some.place c.in-Some.row.now
    c.in-Some-get_index_mut.row.now c.reserve_slot.new.row c.in-Some.ensures.place c.in-Some-get_index_mut.ensures.value
    c.in-Some.ensures.row in
    let ids = subst (AllByRecursion HasOwnId) (sym c.reserve.ensures.entries) c.self.invariant.0.ids in
    let there : lookup (same_session c.args.session) (with_value_at c.reserve.new.self c.in-Some.place c.reserve_slot.new.row).entries
    ≡ Some c.reserve_slot.new.row = (wrote.3 (ap is_some (sym found))).1 in (
      record {
        ids =
            same-ids c.args.session c.reserve.new.self (with_value_at c.reserve.new.self c.in-Some.place c.reserve_slot.new.row)
            c.in-Some-get_index_mut.row.now c.reserve_slot.new.row ids found wrote c.reserve_slot.ensures.same;
        unique = wrote.4;
        room =
            subst (λ (o : Option SessionRow). HasRoomBy o
            (spare (with_value_at c.reserve.new.self c.in-Some.place c.reserve_slot.new.row)) (is_some c.hold_ready.new.at_hand)) (sym there)
            c.in_ok-reserve_slot.ensures.ok;
      },
      c.hold_ready.ensures.ready,
    )

pub returns-clause-same : goal.returns-clause-same
returns-clause-same c =
    write-same c.args.session c.reserve.new.self (with_value_at c.reserve.new.self c.in-Some.place c.reserve_slot.new.row) c.in-Some-get_index_mut.row.now
    c.reserve_slot.new.row
    (at-found c.args.session c.reserve.new.self c.in-Some.place c.in-Some.row.now
    c.in-Some-get_index_mut.row.now c.reserve_slot.new.row c.in-Some.ensures.place c.in-Some-get_index_mut.ensures.value
    c.in-Some.ensures.row)
    (at-written c.args.session c.reserve.new.self c.in-Some.place c.in-Some.row.now
    c.in-Some-get_index_mut.row.now c.reserve_slot.new.row c.in-Some.ensures.place c.in-Some-get_index_mut.ensures.value
    c.get_index_mut.ensures.unique)
    c.reserve_slot.ensures.same
    ∙ ap sessions_of c.reserve.ensures.entries ∙ ap (λ (o : OpenedState). o.rows) c.self.view_is

pub returns-in_default-clause-count : goal.returns-in_default-clause-count
returns-in_default-clause-count c =
    let ids = subst (AllByRecursion HasOwnId) (sym c.reserve.ensures.entries) c.self.invariant.0.ids in
    subst (λ (o : Option OpenSession). next_by o + 1 < 2 ^ 64)
    (ap (option_map open_of) c.in_default.ensures.row ∙ session_of-lookup c.args.session c.reserve.new.self.entries ids)
    (omega arith)

pub returns-clause-count : goal.returns-clause-count
returns-clause-count c =
    let found =
    at-found c.args.session c.reserve.new.self c.in-Some.place c.in-Some.row.now
    c.in-Some-get_index_mut.row.now c.reserve_slot.new.row c.in-Some.ensures.place c.in-Some-get_index_mut.ensures.value
    c.in-Some.ensures.row in
    let ids = subst (AllByRecursion HasOwnId) (sym c.reserve.ensures.entries) c.self.invariant.0.ids in
    let same =
    write-same c.args.session c.reserve.new.self (with_value_at c.reserve.new.self c.in-Some.place c.reserve_slot.new.row)
    c.in-Some-get_index_mut.row.now c.reserve_slot.new.row found
    (at-written c.args.session c.reserve.new.self c.in-Some.place c.in-Some.row.now
    c.in-Some-get_index_mut.row.now c.reserve_slot.new.row c.in-Some.ensures.place c.in-Some-get_index_mut.ensures.value
    c.get_index_mut.ensures.unique)
    c.reserve_slot.ensures.same in
    let is : Some (open_of c.in-Some.row.now) ≡ session_of c.args.session (sessions_of c.reserve.new.self.entries) =
    ap (option_map open_of) c.in-Some.ensures.row ∙ session_of-lookup c.args.session c.reserve.new.self.entries ids in
    subst (λ (ones : List OpenSession). next_by (session_of c.args.session ones) + 1 < 2 ^ 64) (sym same)
    (subst (λ (o : Option OpenSession). next_by o + 1 < 2 ^ 64) is (omega (arith, c.if-not-fits.false)))

pub unreachable-requires : goal.unreachable-requires
unreachable-requires c =
    false≢true (c.in_default-get_index_mut.ensures.found.1
    (slice_get_within c.reserve.new.self.entries c.in-Some.place _ c.in-Some.ensures.place))
