use Rattle.std.proofs.Common.{◌≡◌, ◌<◌, Bool, not, List, [], ◌∷◌, ◌++◌, Option, Some, None, Result, Ok, OnOk, IfSome, is_some, filter, sym, ap, ◌∙◌, subst, arith}
use Rattle.std.specs.List.{AllByRecursion}
use Rattle.std.specs.Map.{lookup}
use Rattle.std.specs.HashMap.{spare}
use Rattle.indexmap.proofs.CallerLemmas.{insert_entry-new}
use Rattle.qq_base.specs.declared.ids.SessionId.{SessionId}
use Rattle.qq_base.specs.Ids.{same_session}
use Rattle.qq_base.proofs.Lists.{AllByRecursion-append, AllByRecursion-filter}
use Rattle.qq_model.specs.declared.session.OpenSession.{OpenSession}
use Rattle.qq_model.specs.Gate.{is_open, is_giving_way}
use Rattle.qq_sessions.specs.declared.row.SessionRow.{SessionRow}
use Rattle.qq_sessions.specs.Row.{open_of, slots}
use Rattle.qq_sessions.specs.Opened.{OpenedState, Entry, HasOwnId, HasRoom, HasRoomBy, IsReady, sessions_of}
use Rattle.qq_sessions.proofs.OpenRows.{absent-closed, room-closed, lookup-filter_none, filtered, pushed}
use Rattle.qq_sessions.proofs.opened.Opened.open_session.Goals as goal

pub unwrap-kept-requires : goal.unwrap-kept-requires
unwrap-kept-requires c =
    let id : SessionId = c.args.stamp.now.session in
    let es : List Entry = c.self.inside.rows.entries in
    let none : lookup (same_session id) es ≡ None =
    absent-closed id es c.self.invariant.0.ids
    (ap (λ (o : OpenedState). is_open id o.rows) c.self.view_is ∙ c.requires.closed) in
    ap is_some c.take.ensures.value
    ∙ (room-closed c.self.inside.room id es (spare c.self.inside.rows) (is_some c.self.inside.at_hand)
    c.self.invariant.0.room (ap (λ (o : OpenedState). o.room) c.self.view_is ∙ c.requires.room) none).1

pub unwrap-requires : goal.unwrap-requires
unwrap-requires c =
    let id : SessionId = c.args.stamp.now.session in
    let es : List Entry = c.self.inside.rows.entries in
    let none : lookup (same_session id) es ≡ None =
    absent-closed id es c.self.invariant.0.ids
    (ap (λ (o : OpenedState). is_open id o.rows) c.self.view_is ∙ c.requires.closed) in
    let room : 0 < spare c.self.inside.rows =
    (room-closed c.self.inside.room id es (spare c.self.inside.rows) (is_some c.self.inside.at_hand)
    c.self.invariant.0.room (ap (λ (o : OpenedState). o.room) c.self.view_is ∙ c.requires.room) none).0 in
    c.insert.ensures.succeeds (omega (arith, c.drop_earlier.ensures.room))

OnOk-at : {T E : Type 0} {r : Result T E} {x : T} {P : Type 0} → r ≡ Ok x → OnOk r P → P
OnOk-at {P = P} is holds = subst (λ r. OnOk r P) is holds

-- the row goes behind those that don't give way
entries-are : (c : goal.Joined-unwrap) → c.insert.new.self.entries
    ≡ c.drop_earlier.new.rows.entries ++ (c.args.stamp.now.session, c.new_session-row.result) ∷ []
entries-are c =
    let id : SessionId = c.args.stamp.now.session in
    let es : List Entry = c.self.inside.rows.entries in
    let none : lookup (same_session id) es ≡ None =
    absent-closed id es c.self.invariant.0.ids
    (ap (λ (o : OpenedState). is_open id o.rows) c.self.view_is ∙ c.requires.closed) in
    let still : lookup (same_session id) c.drop_earlier.new.rows.entries ≡ None =
    ap (lookup (same_session id)) c.drop_earlier.ensures.entries
    ∙ lookup-filter_none (same_session id) (λ e. not (is_giving_way id (open_of e.1))) es none in
    OnOk-at c.unwrap.ensures c.insert.ensures.entries
    ∙ insert_entry-new same_session c.drop_earlier.new.rows id c.new_session-row.result still

pub invariant_of-self : goal.invariant_of-self
invariant_of-self c =
    let id : SessionId = c.args.stamp.now.session in
    let row : SessionRow = c.new_session-row.result in
    let held : c.self.inside.room ≡ Some id = ap (λ (o : OpenedState). o.room) c.self.view_is ∙ c.requires.room in
    let found : lookup (same_session id) c.insert.new.self.entries ≡ Some row =
    (OnOk-at c.unwrap.ensures c.insert.ensures.updates).1 in
    let ready : IsReady c.unwrap-kept.result =
    subst (λ o. IfSome o IsReady) (sym c.take.ensures.value ∙ c.unwrap-kept.ensures) c.self.invariant.1 in
    let has : 0 < slots row = omega (arith, c.new_session-row.ensures.slots, ready.1) in
    let own : id ≡ row.session = sym (ap (λ (one : OpenSession). one.session) c.new_session-row.ensures.made) in (
      record {
        ids =
            subst (AllByRecursion HasOwnId) (sym (entries-are c))
            (AllByRecursion-append HasOwnId c.drop_earlier.new.rows.entries ((id, row) ∷ [])
            (subst (AllByRecursion HasOwnId) (sym c.drop_earlier.ensures.entries)
            (AllByRecursion-filter HasOwnId (λ e. not (is_giving_way id (open_of e.1))) c.self.inside.rows.entries
            c.self.invariant.0.ids)) (own, tt));
        unique = c.insert.ensures.unique;
        room =
            subst (λ (h : Option SessionId). HasRoom h c.insert.new.self.entries (spare c.insert.new.self)
            (is_some c.take.new.self)) (sym held)
            (subst (λ (o : Option SessionRow). HasRoomBy o (spare c.insert.new.self) (is_some c.take.new.self))
            (sym found) has);
      },
      subst (λ o. IfSome o IsReady) (sym c.take.ensures.after) tt,
    )

pub returns-clause-rows : goal.returns-clause-rows
returns-clause-rows c =
    let stays : OpenSession → Bool = λ one. not (is_giving_way c.args.stamp.now.session one) in
    ap sessions_of (entries-are c)
    ∙ pushed c.drop_earlier.new.rows.entries (c.args.stamp.now.session, c.new_session-row.result)
    ∙ ap (λ (ones : List OpenSession). ones ++ open_of c.new_session-row.result ∷ [])
    (ap sessions_of c.drop_earlier.ensures.entries ∙ filtered stays c.self.inside.rows.entries
    ∙ ap (λ (o : OpenedState). filter stays o.rows) c.self.view_is)
    ∙ ap (λ (one : OpenSession). filter stays c.args.self.now.rows ++ one ∷ []) c.new_session-row.ensures.made
