-- A number that is let in is the next one of its session, and is used then.
use Rattle.std.proofs.Common.{◌≡◌, ℕ, ◌+◌, ◌-◌, ◌≤◌, ◌⊎◌, Bool, true, false, not, cond, Option, Some, None, refl, sym, ap, ◌∙◌, subst, inl, inr, arith, if◌then◌else◌}
use Rattle.std.specs.Prelude.{nat_eq, nat_lt, nat_le, filter}
use Rattle.std.proofs.lemmas.Bool.{cases_Bool, cond-true, cond-false, cond_both, eqb-true, ltb-false}
use Rattle.qq_model.specs.declared.TheConstants.{WINDOW}
use Rattle.qq_entry.specs.declared.command.Stamp.{Stamp}
use Rattle.qq_entry.specs.declared.answer.Answer.{Answer}
use Rattle.qq_model.specs.declared.session.OpenSession.{OpenSession}
use Rattle.qq_model.specs.declared.session.Gate.{Gate}
use Rattle.qq_model.specs.declared.session.Gate.TheVariants.{Fresh, Gap, Forgotten, Ended, WindowFull}
use Rattle.qq_model.specs.State.{Sessions}
use Rattle.qq_base.specs.Ids.{same_session}
use Rattle.qq_model.specs.Gate.{is_dead_letter, session_of, is_open, is_ended, repeat_by, kept_answer, next_mark, use_number, new_session, open_session, is_giving_way, gate_number, gate_unknown, gate_by, gate, admit, change_session}
use Rattle.qq_entry.specs.Command.{stamp}
use Rattle.qq_base.proofs.Lists.{find-in, list_any-filter}
use Rattle.qq_model.proofs.Lists.{find-map, list_any-found, find-none, find-last}
use Rattle.qq_laws.specs.Once.{is_fresh}
use Rattle.qq_model.proofs.Later.{Used, UsedBy}
use Rattle.qq_model.proofs.Later.Used.{GoesOn, IsOver}
use Rattle.qq_model.proofs.LaterSteps.{fresh-checked}
use Rattle.qq_model.proofs.SessionLemmas.{ended-from, same_session-refl}
use Rattle.qq_laws.proofs.TurnAway.{repeat-stale}
use Rattle.qq_model.proofs.Later.UsedBy.{OpenBy}

repeat_by≢Fresh : (o : Option Answer) → repeat_by o ≡ Fresh → ⊥
repeat_by≢Fresh None same = cc
repeat_by≢Fresh (Some answer) same = cc

-- an open session's number that is let in is its next
pub fresh-next : (stamp : Stamp) (one : OpenSession) → gate_number stamp one ≡ Fresh → stamp.seq ≡ one.next
fresh-next stamp one fresh =
    below (cases_Bool (nat_le stamp.seq (next_mark stamp one))) (cases_Bool (nat_lt stamp.seq one.next))
    (cases_Bool (nat_lt one.next stamp.seq))
  where
    last : Gate
    last = if nat_eq (one.next - 1 - next_mark stamp one) WINDOW then WindowFull else Fresh

    gaps : Gate
    gaps = if nat_lt one.next stamp.seq then Gap one.next else last

    agains : Gate
    agains = if nat_lt stamp.seq one.next then repeat_by (kept_answer stamp.seq one) else gaps

    below : (nat_le stamp.seq (next_mark stamp one) ≡ true) ⊎ (nat_le stamp.seq (next_mark stamp one) ≡ false)
        → (nat_lt stamp.seq one.next ≡ true) ⊎ (nat_lt stamp.seq one.next ≡ false)
        → (nat_lt one.next stamp.seq ≡ true) ⊎ (nat_lt one.next stamp.seq ≡ false) → stamp.seq ≡ one.next
    below (inl forgotten) b c =
        let e : Forgotten ≡ Fresh =
        sym (cond-true (nat_le stamp.seq (next_mark stamp one)) Forgotten agains forgotten) ∙ fresh in
        absurd cc
    below (inr a) (inl repeat) c =
        absurd (repeat_by≢Fresh (kept_answer stamp.seq one)
        (sym (cond-false (nat_le stamp.seq (next_mark stamp one)) Forgotten agains a
        ∙ cond-true (nat_lt stamp.seq one.next) (repeat_by (kept_answer stamp.seq one)) gaps repeat) ∙ fresh))
    below (inr a) (inr b) (inl gap) =
        let e : Gap one.next ≡ Fresh =
        sym (cond-false (nat_le stamp.seq (next_mark stamp one)) Forgotten agains a
        ∙ cond-false (nat_lt stamp.seq one.next) (repeat_by (kept_answer stamp.seq one)) gaps b
        ∙ cond-true (nat_lt one.next stamp.seq) (Gap one.next) last gap) ∙ fresh in absurd cc
    below (inr a) (inr b) (inr c) =
        let le : one.next ≤ stamp.seq = ltb-false stamp.seq one.next b in
        let ge : stamp.seq ≤ one.next = ltb-false one.next stamp.seq c in omega arith

pub fresh-first : (s : Sessions) (stamp : Stamp) → gate_unknown s stamp ≡ Fresh → stamp.seq ≡ 1
fresh-first s stamp fresh = elim (cases_Bool (nat_eq stamp.seq 1)) [
  | inl is ↦ eqb-true stamp.seq 1 is
  | inr other ↦
      let e : Gap 1 ≡ Fresh = sym (cond-true (not (nat_eq stamp.seq 1)) (Gap 1) _ (ap not other)) ∙ fresh in absurd cc
]

-- a number that is let in is used then
pub admit-used : (s : Sessions) (stamp : Stamp) → is_dead_letter stamp.session ≡ false → gate s stamp ≡ Fresh
    → Used (admit s stamp) stamp.session (stamp.seq + 1) 0
unfolding admit
admit-used s stamp plain fresh =
    let opens : Sessions =
    if is_open stamp.session s.opened
    then record s { opened = change_session stamp.session (use_number stamp) s.opened } else open_session s stamp in
    subst (λ (t : Sessions). Used t stamp.session (stamp.seq + 1) 0)
    (sym (cond-false (is_dead_letter stamp.session) s opens plain))
    (by (session_of stamp.session s.opened) refl (fresh-checked s stamp plain fresh))
  where
    test : OpenSession → Bool
    test one = same_session one.session stamp.session

    uses : Sessions
    uses = record s { opened = change_session stamp.session (use_number stamp) s.opened }

    by : (o : Option OpenSession) → session_of stamp.session s.opened ≡ o → gate_by o s stamp ≡ Fresh
        → Used (cond (is_open stamp.session s.opened) uses (open_session s stamp)) stamp.session (stamp.seq + 1) 0
    by (Some one) found checked =
        let next : stamp.seq ≡ one.next = fresh-next stamp one checked in
        let f : OpenSession → OpenSession =
        λ o. if same_session o.session stamp.session then use_number stamp o else o in
        let same : (o : OpenSession) → test (f o) ≡ test o =
        λ o. cond_both (test o) (use_number stamp o) o (λ (u : OpenSession). test u ≡ test o) (λ _. refl)
        (λ _. refl) in
        let mine : f one ≡ use_number stamp one =
        cond-true (test one) (use_number stamp one) one (find-in test s.opened one found).1 in
        subst (λ (t : Sessions). Used t stamp.session (stamp.seq + 1) 0)
        (sym (cond-true (is_open stamp.session s.opened) uses (open_session s stamp)
        (list_any-found test s.opened one found)))
        (GoesOn (use_number stamp one)
        (find-map test f s.opened one same found ∙ ap (λ (o : OpenSession). Some o) mine)
        (omega arith) (omega arith))
    by None found checked =
        let first : stamp.seq ≡ 1 = fresh-first s stamp checked in
        let closed : is_open stamp.session s.opened ≡ false = find-none test s.opened found in
        let stays : OpenSession → Bool = λ one. not (is_giving_way stamp.session one) in
        subst (λ (t : Sessions). Used t stamp.session (stamp.seq + 1) 0)
        (sym (cond-false (is_open stamp.session s.opened) uses (open_session s stamp) closed))
        (GoesOn (new_session stamp)
        (find-last test (filter stays s.opened) (new_session stamp) (list_any-filter test stays s.opened closed)
        (same_session-refl stamp.session)) (omega arith) (omega arith))

-- after a number that is let in comes the next
pub admit-next : (s : Sessions) (stamp : Stamp) → is_dead_letter stamp.session ≡ false → gate s stamp ≡ Fresh
    → UsedBy (λ one. one.next ≡ stamp.seq + 1) (admit s stamp) stamp.session
unfolding admit
admit-next s stamp plain fresh =
    let opens : Sessions =
    if is_open stamp.session s.opened
    then record s { opened = change_session stamp.session (use_number stamp) s.opened } else open_session s stamp in
    subst (λ (t : Sessions). UsedBy (λ one. one.next ≡ stamp.seq + 1) t stamp.session)
    (sym (cond-false (is_dead_letter stamp.session) s opens plain))
    (by (session_of stamp.session s.opened) refl (fresh-checked s stamp plain fresh))
  where
    test : OpenSession → Bool
    test one = same_session one.session stamp.session

    uses : Sessions
    uses = record s { opened = change_session stamp.session (use_number stamp) s.opened }

    by : (o : Option OpenSession) → session_of stamp.session s.opened ≡ o → gate_by o s stamp ≡ Fresh
        → UsedBy (λ one. one.next ≡ stamp.seq + 1)
        (cond (is_open stamp.session s.opened) uses (open_session s stamp)) stamp.session
    by (Some one) found checked =
        let next : stamp.seq ≡ one.next = fresh-next stamp one checked in
        let f : OpenSession → OpenSession =
        λ o. if same_session o.session stamp.session then use_number stamp o else o in
        let same : (o : OpenSession) → test (f o) ≡ test o =
        λ o. cond_both (test o) (use_number stamp o) o (λ (u : OpenSession). test u ≡ test o) (λ _. refl)
        (λ _. refl) in
        let mine : f one ≡ use_number stamp one =
        cond-true (test one) (use_number stamp one) one (find-in test s.opened one found).1 in
        subst (λ (t : Sessions). UsedBy (λ one. one.next ≡ stamp.seq + 1) t stamp.session)
        (sym (cond-true (is_open stamp.session s.opened) uses (open_session s stamp)
        (list_any-found test s.opened one found)))
        (OpenBy (use_number stamp one)
        (find-map test f s.opened one same found ∙ ap (λ (o : OpenSession). Some o) mine)
        (omega (arith, next)))
    by None found checked =
        let first : stamp.seq ≡ 1 = fresh-first s stamp checked in
        let closed : is_open stamp.session s.opened ≡ false = find-none test s.opened found in
        let stays : OpenSession → Bool = λ one. not (is_giving_way stamp.session one) in
        subst (λ (t : Sessions). UsedBy (λ one. one.next ≡ stamp.seq + 1) t stamp.session)
        (sym (cond-false (is_open stamp.session s.opened) uses (open_session s stamp) closed))
        (OpenBy (new_session stamp)
        (find-last test (filter stays s.opened) (new_session stamp) (list_any-filter test stays s.opened closed)
        (same_session-refl stamp.session)) (omega (arith, first)))

-- a number that is used isn't let in
pub used-stale : (s : Sessions) (stamp : Stamp) (tag : ℕ) → is_dead_letter stamp.session ≡ false
    → Used s stamp.session (stamp.seq + 1) tag → is_fresh (gate s stamp) ≡ false
unfolding gate
used-stale s stamp tag plain (IsOver over) =
    ap is_fresh (cond-false (is_dead_letter stamp.session) Fresh
    (cond (is_ended s stamp.session) Ended (gate_by (session_of stamp.session s.opened) s stamp)) plain
    ∙ cond-true (is_ended s stamp.session) Ended (gate_by (session_of stamp.session s.opened) s stamp)
    (ended-from s stamp.session over))
used-stale s stamp tag plain (GoesOn one found next above) =
    repeat-stale s stamp one (record { numbered = plain; opened = found; below = omega arith })
