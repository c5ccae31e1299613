-- A command that passes the gate leaves the greatest tag of its session's consumers.
use Rattle.std.proofs.Common.{◌≡◌, ℕ, Bool, false, not, List, [], ◌∷◌, ◌++◌, Some, None, map, filter, refl, sym, ap, ◌∙◌, inl, inr}
use Rattle.std.specs.Prelude.{find, if◌then◌else◌}
use Rattle.std.proofs.lemmas.Bool.{cases_Bool, cond-true, cond-false, or_parts}
use Rattle.qq_base.specs.declared.ids.SessionId.{SessionId}
use Rattle.qq_base.specs.Ids.{same_session}
use Rattle.qq_model.proofs.SessionLemmas.{same_session-refl}
use Rattle.qq_entry.specs.declared.command.Stamp.{Stamp}
use Rattle.qq_model.specs.declared.session.OpenSession.{OpenSession}
use Rattle.qq_model.specs.State.{Sessions}
use Rattle.qq_model.specs.Gate.{session_of, is_open, change_session, tag_by, greatest_tag, admit, use_number, open_session, new_session, is_giving_way, is_dead_letter}
use Rattle.qq_machine.specs.declared.pending.Pending.{Pending}
use Rattle.qq_machine.specs.Gated.{done, begun}

abbrev tag_in : SessionId → List OpenSession → ℕ
tag_in session ones = tag_by (session_of session ones)

abbrev change_one : SessionId → (OpenSession → OpenSession) → OpenSession → OpenSession
change_one session f one = if same_session one.session session then f one else one

changed-tag : (session : SessionId) (f : OpenSession → OpenSession)
    → ((one : OpenSession) → (f one).session ≡ one.session) → ((one : OpenSession) → (f one).tag ≡ one.tag)
    → (ones : List OpenSession) → tag_in session (change_session session f ones) ≡ tag_in session ones
changed-tag session f ids tags [] = refl
changed-tag session f ids tags (one ∷ rest) =
    let test : OpenSession → Bool = λ o. same_session o.session session in
    let more : List OpenSession = map (change_one session f) rest in
    elim (cases_Bool (same_session one.session session)) [
      | inl own ↦
          ap (λ (o : OpenSession). tag_in session (o ∷ more)) (cond-true (same_session one.session session) (f one) one own)
          ∙ ap tag_by (cond-true (test (f one)) (Some (f one)) (find test more)
          (ap (λ (s : SessionId). same_session s session) (ids one) ∙ own))
          ∙ tags one
          ∙ sym (ap tag_by (cond-true (test one) (Some one) (find test rest) own))
      | inr other ↦
          ap (λ (o : OpenSession). tag_in session (o ∷ more)) (cond-false (same_session one.session session) (f one) one other)
          ∙ ap tag_by (cond-false (test one) (Some one) (find test more) other)
          ∙ changed-tag session f ids tags rest
          ∙ sym (ap tag_by (cond-false (test one) (Some one) (find test rest) other))
    ]

closed-none : (session : SessionId) (ones : List OpenSession) → is_open session ones ≡ false
    → tag_in session ones ≡ 0
closed-none session [] closed = refl
closed-none session (one ∷ rest) closed =
    let parts = or_parts (same_session one.session session) (is_open session rest) closed in
    ap tag_by (cond-false (same_session one.session session) (Some one)
    (session_of session rest) parts.0)
    ∙ closed-none session rest parts.1

opened-tag : (stamp : Stamp) (keeps : OpenSession → Bool) (ones : List OpenSession)
    → is_open stamp.session ones ≡ false
    → tag_in stamp.session (filter keeps ones ++ new_session stamp ∷ []) ≡ 0
opened-tag stamp keeps [] closed =
    ap tag_by (cond-true (same_session stamp.session stamp.session) (Some (new_session stamp)) None
    (same_session-refl stamp.session))
opened-tag stamp keeps (one ∷ rest) closed =
    let parts = or_parts (same_session one.session stamp.session) (is_open stamp.session rest) closed in
    let left : List OpenSession = filter keeps rest ++ new_session stamp ∷ [] in
    elim (cases_Bool (keeps one)) [
      | inl stays ↦
          ap (λ (os : List OpenSession). tag_in stamp.session (os ++ new_session stamp ∷ []))
          (cond-true (keeps one) (one ∷ filter keeps rest) (filter keeps rest) stays)
          ∙ ap tag_by (cond-false (same_session one.session stamp.session) (Some one)
          (session_of stamp.session left) parts.0)
          ∙ opened-tag stamp keeps rest parts.1
      | inr goes ↦
          ap (λ (os : List OpenSession). tag_in stamp.session (os ++ new_session stamp ∷ []))
          (cond-false (keeps one) (one ∷ filter keeps rest) (filter keeps rest) goes)
          ∙ opened-tag stamp keeps rest parts.1
    ]

pub admit-tag : (s : Sessions) (stamp : Stamp)
    → greatest_tag stamp.session (admit s stamp) ≡ greatest_tag stamp.session s
unfolding admit
admit-tag s stamp =
    let opened : Sessions =
    if is_open stamp.session s.opened then
    record s { opened = change_session stamp.session (use_number stamp) s.opened }
    else open_session s stamp in
    elim (cases_Bool (is_dead_letter stamp.session)) [
      | inl dead ↦ ap (greatest_tag stamp.session) (cond-true (is_dead_letter stamp.session) s opened dead)
      | inr live ↦
          ap (greatest_tag stamp.session) (cond-false (is_dead_letter stamp.session) s opened live)
          ∙ elim (cases_Bool (is_open stamp.session s.opened)) [
            | inl open_now ↦
                ap (greatest_tag stamp.session) (cond-true (is_open stamp.session s.opened)
                (record s { opened = change_session stamp.session (use_number stamp) s.opened }) (open_session s stamp) open_now)
                ∙ changed-tag stamp.session (use_number stamp) (λ one. refl) (λ one. refl) s.opened
            | inr closed ↦
                ap (greatest_tag stamp.session) (cond-false (is_open stamp.session s.opened)
                (record s { opened = change_session stamp.session (use_number stamp) s.opened }) (open_session s stamp) closed)
                ∙ opened-tag stamp (λ one. not (is_giving_way stamp.session one)) s.opened closed
                ∙ sym (closed-none stamp.session s.opened closed)
          ]
    ]

-- where a step begins behind the gate
pub begun-tag : (p : Pending) (s : Sessions) (stamp : Stamp) → p ≡ begun (Some stamp)
    → greatest_tag stamp.session s ≡ greatest_tag stamp.session (done p s)
begun-tag p s stamp is =
    sym (ap (λ (k : Pending). greatest_tag stamp.session (done k s)) is ∙ admit-tag s stamp)
