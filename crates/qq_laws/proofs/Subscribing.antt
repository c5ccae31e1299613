-- A subscribe is refused exactly at its limits.
use Rattle.std.proofs.Common.{◌≡◌, ℕ, Bool, true, false, not, ◌||◌, [], Option, Some, None, length, refl, sym, ap, ◌∙◌, if◌then◌else◌}
use Rattle.std.specs.Prelude.{nat_le, filter}
use Rattle.std.proofs.lemmas.Bool.{false≢true, cond_both}
use Rattle.qq_base.specs.declared.ids.Index.{Index}
use Rattle.qq_base.specs.declared.ids.SessionId.{SessionId}
use Rattle.qq_base.specs.Ids.{same_session}
use Rattle.qq_entry.specs.Command.{consumer_id}
use Rattle.qq_entry.specs.declared.answer.Answer.TheVariants as answer
use Rattle.qq_entry.specs.declared.answer.Cause.TheVariants.{NumberSpent, ConsumersFull}
use Rattle.qq_entry.specs.declared.command.Command.TheVariants.{Subscribe}
use Rattle.qq_entry.specs.declared.command.Entry.{Entry}
use Rattle.qq_entry.specs.declared.command.Mode.{Mode}
use Rattle.qq_entry.specs.declared.command.Stamp.{Stamp}
use Rattle.qq_model.specs.declared.TheConstants.{MOST_CONSUMERS}
use Rattle.qq_model.specs.declared.session.OpenSession.{OpenSession}
use Rattle.qq_model.specs.State.{State, Sessions}
use Rattle.qq_model.specs.Gate.{is_dead_letter, session_of, is_open, use_number, new_session, is_giving_way, open_session, admit, change_session, tag_by, greatest_tag}
use Rattle.qq_model.specs.Changes.{Progress}
use Rattle.qq_model.specs.Commands.{act, refuse, reply, set_state, join, subscribe}
use Rattle.qq_model.specs.Serving.{drain_after}
use Rattle.qq_model.specs.Step.{Step, carry_out}
use Rattle.qq_model.specs.Audit.{next_index}
use Rattle.qq_base.proofs.Lists.{find-in, list_any-filter, list_any-from_in}
use Rattle.qq_model.proofs.Lists.{find-last, find-map, find-none}
use Rattle.qq_model.proofs.SessionLemmas.{same_session-refl}
use Rattle.qq_laws.specs.Joining.{RefusesAtLimits, is_subscribed}
use Rattle.qq_laws.proofs.TakenLemmas.{let_in, made-carried}

-- a command that is let in leaves its session the tags that it used
pub admit-tag : (s : Sessions) (given : Stamp)
    → greatest_tag given.session (admit s given) ≡ greatest_tag given.session s
unfolding admit
admit-tag s given =
    cond_both (is_dead_letter id) s (if is_open id s.opened then uses else open_session s given) Same (λ _. refl)
    (λ _. cond_both (is_open id s.opened) uses (open_session s given) Same
    (λ open'. used open' (session_of id s.opened) refl)
    (λ closed. ap tag_by (opened closed) ∙ ap tag_by (sym (unknown closed (session_of id s.opened) refl))))
  where
    id : SessionId
    id = given.session

    uses : Sessions
    uses = record s { opened = change_session id (use_number given) s.opened }

    Same : Sessions → Type 0
    Same t = greatest_tag id t ≡ greatest_tag id s

    test : OpenSession → Bool
    test one = same_session one.session id

    f : OpenSession → OpenSession
    f one = if same_session one.session id then use_number given one else one

    kept : (one : OpenSession) → test (f one) ≡ test one
    kept one =
        cond_both (test one) (use_number given one) one (λ (o : OpenSession). test o ≡ test one) (λ _. refl) (λ _. refl)

    tag : (one : OpenSession) → (f one).tag ≡ one.tag
    tag one =
        cond_both (test one) (use_number given one) one (λ (o : OpenSession). o.tag ≡ one.tag) (λ _. refl) (λ _. refl)

    used : is_open id s.opened ≡ true → (o : Option OpenSession) → session_of id s.opened ≡ o
        → tag_by (session_of id (change_session id (use_number given) s.opened)) ≡ tag_by (session_of id s.opened)
    used open' None found = absurd (false≢true (sym (find-none test s.opened found) ∙ open'))
    used open' (Some one) found =
        ap tag_by (find-map test f s.opened one kept found) ∙ tag one ∙ ap tag_by (sym found)

    opened : is_open id s.opened ≡ false → session_of id (open_session s given).opened ≡ Some (new_session given)
    opened closed =
        let stays : OpenSession → Bool = λ one. not (is_giving_way id one) in
        find-last test (filter stays s.opened) (new_session given) (list_any-filter test stays s.opened closed)
        (same_session-refl id)

    unknown : is_open id s.opened ≡ false → (o : Option OpenSession) → session_of id s.opened ≡ o
        → session_of id s.opened ≡ None
    unknown closed None found = found
    unknown closed (Some one) found =
        let some = find-in test s.opened one found in
        absurd (false≢true (sym closed ∙ list_any-from_in test one s.opened some.0 some.1))

subscribed-by : (spent full : Bool) (p q : Progress)
    → is_subscribed (if spent then refuse NumberSpent p else if full then refuse ConsumersFull p
    else reply answer.Subscribed q).answer ≡ not (spent || full)
subscribed-by true full p q = refl
subscribed-by false true p q = refl
subscribed-by false false p q = refl

subscribe-answer : (given : Stamp) (tag : ℕ) (mode : Mode) (index : Index) (s : State)
    → is_subscribed (carry_out index (Subscribe given tag mode) s).answer
    ≡ not (nat_le tag (greatest_tag given.session s.sessions) || nat_le MOST_CONSUMERS (length s.consumers))
unfolding carry_out act subscribe drain_after
subscribe-answer given tag mode index s =
    let p : Progress = record { state = s; effects = [] } in
    subscribed-by (nat_le tag (greatest_tag given.session s.sessions)) (nat_le MOST_CONSUMERS (length s.consumers)) p
    (set_state (join (consumer_id given tag) mode s) p)

pub refuses_at_limits : (s : State) (entry : Entry) → RefusesAtLimits s entry
refuses_at_limits s entry given tag mode is fresh =
    ap (λ (m : Step). is_subscribed m.answer) (made-carried s entry given (Subscribe given tag mode) is refl fresh)
    ∙ subscribe-answer given tag mode (next_index s) (let_in s given)
    ∙ ap (λ n. not (nat_le tag n || nat_le MOST_CONSUMERS (length s.consumers))) (admit-tag s.sessions given)
