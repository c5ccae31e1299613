-- A consumer joins with an id that nobody has.
use Rattle.std.proofs.Common.{◌≡◌, ◌<◌, ◌≤◌, ℕ, Bool, true, false, not, cond, Option, Some, None, refl, sym, ap, ◌∙◌, subst, inl, inr, arith, if◌then◌else◌}
use Rattle.std.specs.Prelude.{nat_eq, nat_le, filter, Contains}
use Rattle.std.proofs.lemmas.Bool.{cases_Bool, cond-true, cond-false, cond_both, leb-false, eqb-true, eqb-false, eq-eqb}
use Rattle.qq_base.proofs.Lists.{In, In-map, list_any-filter}
use Rattle.qq_base.specs.declared.ids.SessionId.{SessionId}
use Rattle.qq_base.specs.declared.ids.ConsumerId.{ConsumerId}
use Rattle.qq_base.specs.declared.ids.TheConstants.{CLIENT, DEAD_LETTER}
use Rattle.qq_base.specs.Ids.{same_session, same_consumer}
use Rattle.qq_entry.specs.Command.{stamp, consumer_id}
use Rattle.qq_entry.specs.Range.{IsCounted, IsCommand}
use Rattle.qq_entry.specs.declared.command.Stamp.{Stamp}
use Rattle.qq_entry.specs.declared.command.Command.{Command}
use Rattle.qq_entry.specs.declared.command.Command.TheVariants.{Subscribe}
use Rattle.qq_model.specs.declared.session.OpenSession.{OpenSession}
use Rattle.qq_model.specs.declared.session.Gate.TheVariants.{Fresh}
use Rattle.qq_model.specs.declared.consumer.Consumer.{Consumer}
use Rattle.qq_model.specs.State.{State, Sessions}
use Rattle.qq_model.specs.Gate.{is_dead_letter, IsNumbered, session_of, is_open, is_ended, use_number, new_session, open_session, is_giving_way, gate, admit, change_session, greatest_tag, tag_by}
use Rattle.qq_model.specs.Sound.{IsSound}
use Rattle.qq_model.proofs.Lists.{find-map, list_any-found, find-none, find-last, AllByRecursion-from_in}
use Rattle.qq_model.proofs.LaterSteps.{fresh-going}
use Rattle.qq_model.proofs.Current.{numbered-plain}
use Rattle.qq_model.proofs.SessionLemmas.{same_session-refl}
use Rattle.qq_model.proofs.OneConsumer.{same_consumer-true}
use Rattle.qq_model.proofs.Soundness.{Contains-in}
use Rattle.qq_parts.specs.Parts.{Served, consumer_at, Parts, Stands}
use Rattle.qq_parts.specs.Outs.{IsFree}
use Rattle.qq_parts.specs.Commands.{HasFreeId}
use Rattle.qq_parts.specs.Step.{with_sessions}

-- a command that is let in changes no tag
admit-tag : (s : Sessions) (by : Stamp) → is_dead_letter by.session ≡ false
    → greatest_tag by.session (admit s by) ≡ greatest_tag by.session s
unfolding admit
admit-tag s by plain =
    ap (greatest_tag by.session)
    (cond-false (is_dead_letter by.session) s (if is_open by.session s.opened then uses else open_session s by) plain)
    ∙ at (session_of by.session s.opened) refl
  where
    test : OpenSession → Bool
    test one = same_session one.session by.session

    uses : Sessions
    uses = record s { opened = change_session by.session (use_number by) s.opened }

    change : OpenSession → OpenSession
    change one = if same_session one.session by.session then use_number by one else one

    at : (o : Option OpenSession) → session_of by.session s.opened ≡ o
        → greatest_tag by.session (cond (is_open by.session s.opened) uses (open_session s by))
        ≡ greatest_tag by.session s
    at (Some one) found =
        let same : (y : OpenSession) → test (change y) ≡ test y =
        λ y. cond_both (same_session y.session by.session) (use_number by y) y (λ (o : OpenSession). test o ≡ test y)
        (λ _. refl) (λ _. refl) in
        let tag : (change one).tag ≡ one.tag =
        cond_both (same_session one.session by.session) (use_number by one) one
        (λ (o : OpenSession). o.tag ≡ one.tag) (λ _. refl) (λ _. refl) in
        ap (greatest_tag by.session)
        (cond-true (is_open by.session s.opened) uses (open_session s by) (list_any-found test s.opened one found))
        ∙ ap tag_by (find-map test change s.opened one same found) ∙ tag ∙ sym (ap tag_by found)
    at None found =
        let closed : is_open by.session s.opened ≡ false = find-none test s.opened found in
        let stays : OpenSession → Bool = λ one. not (is_giving_way by.session one) in
        let last =
        find-last test (filter stays s.opened) (new_session by) (list_any-filter test stays s.opened closed)
        (same_session-refl by.session) in
        ap (greatest_tag by.session)
        (cond-false (is_open by.session s.opened) uses (open_session s by) closed)
        ∙ ap tag_by last ∙ sym (ap tag_by found)

-- the sessions of clients and of workers are numbered
numbered : (session : SessionId) → CLIENT ≤ session.class → session.class < DEAD_LETTER → IsNumbered session
numbered session low high =
    let from : 1 ≤ session.class = low in
    let below : session.class < 3 = high in
    elim (cases_Bool (nat_eq session.class 1)) [
      | inl one ↦ inl one
      | inr other ↦
          let two : session.class ≡ 2 = by (session.class) from below other in
          inr (eq-eqb session.class 2 two)
    ]
  where
    by : (n : ℕ) → 1 ≤ n → n < 3 → nat_eq n 1 ≡ false → n ≡ 2
    by n from below other = elim (cases_Bool (nat_eq n 2)) [
      | inl two ↦ eqb-true n 2 two
      | inr more ↦ omega (arith, eqb-false n 1 other, eqb-false n 2 more)
    ]

free-id : (m : Parts) (s : State) (by : Stamp) (tag : ℕ) → IsSound s → Stands m s → IsCounted by
    → gate s.sessions by ≡ Fresh
    → nat_le tag (greatest_tag by.session (admit m.rest.sessions by)) ≡ false → IsFree (consumer_id by tag) m
free-id m s by tag sound stands counted fresh above =
    AllByRecursion-from_in
    (λ (one : Served). (same_consumer one.consumer.id id ≡ false) × (same_consumer id one.consumer.id ≡ false)) m.served
    (λ one here. (
      at one here (same_consumer one.consumer.id id) (λ same. same_consumer-true one.consumer.id id same),
      at one here (same_consumer id one.consumer.id) (λ same. sym (same_consumer-true id one.consumer.id same)),
    ))
  where
    id : ConsumerId
    id = consumer_id by tag

    session : SessionId
    session = by.session

    known : IsNumbered by.session
    known = numbered by.session counted.0.session.class.0 counted.1

    plain : is_dead_letter by.session ≡ false
    plain = numbered-plain by.session known

    going : is_ended s.sessions by.session ≡ false
    going = fresh-going s.sessions by plain fresh

    sessions : s.sessions ≡ m.rest.sessions
    sessions = ap (λ (t : State). t.sessions) stands.rest

    more : greatest_tag by.session s.sessions < tag
    more =
        subst (λ n. n < tag) (admit-tag m.rest.sessions by plain ∙ ap (greatest_tag by.session) (sym sessions))
        (leb-false tag (greatest_tag by.session (admit m.rest.sessions by)) above)

    has : (c : Consumer) → Contains s.consumers c → c.id ≡ id → tag ≤ greatest_tag by.session s.sessions
    has c there is =
        let held : IsNumbered c.id.session = subst (λ (k : ConsumerId). IsNumbered k.session) (sym is) known in
        let goes : is_ended s.sessions c.id.session ≡ false =
        subst (λ (k : ConsumerId). is_ended s.sessions k.session ≡ false) (sym is) going in
        subst (λ (k : ConsumerId). k.tag ≤ greatest_tag k.session s.sessions) is
        (sound.consumers.tags c there held goes)

    at : (one : Served) → In one m.served → (b : Bool) → (b ≡ true → one.consumer.id ≡ id) → b ≡ false
    at one here false same = refl
    at one here true same =
        let in' : In one.consumer s.consumers =
        subst (In one.consumer) (sym (ap (λ (t : State). t.consumers) stands.rest))
        (In-map consumer_at one m.served here) in
        let low = has one.consumer (Contains-in one.consumer s.consumers in') (same refl) in
        absurd (omega (arith, low, more))

pub has-free_id : (command : Command) (by : Stamp) (m : Parts) (s : State) → stamp command ≡ Some by
    → IsCommand command → IsSound s → Stands m s → gate s.sessions by ≡ Fresh
    → HasFreeId command (with_sessions (admit m.rest.sessions by) m)
has-free_id (Subscribe given tag mode) by m s is range sound stands fresh =
    let same : given ≡ by = cc in
    λ above.
    free-id m s given tag sound stands range.0.0
    (subst (λ (k : Stamp). gate s.sessions k ≡ Fresh) (sym same) fresh)
    (subst (λ (k : Stamp). nat_le tag (greatest_tag given.session (admit m.rest.sessions k)) ≡ false) (sym same) above)
has-free_id _ by m s is range sound stands fresh = tt

-- a command without a stamp is no Subscribe
pub unstamped-free : (command : Command) (m : Parts) → stamp command ≡ None → HasFreeId command m
unstamped-free (Subscribe given tag mode) m is = absurd cc
unstamped-free _ m is = tt
