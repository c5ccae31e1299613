-- A repeat has the first answer.
use Rattle.std.proofs.Common.{◌≡◌, ℕ, zero, suc, ◌+◌, ◌-◌, ◌<◌, ◌≤◌, ◌⊎◌, true, List, [], ◌∷◌, ◌++◌, Option, Some, None, length, refl, sym, ap, ◌∙◌, subst, inl, inr, arith, Bool, if◌then◌else◌}
use Rattle.std.specs.Prelude.{slice_get, drop, min}
use Rattle.std.proofs.lemmas.Bool.{false≢true, cond-true, cond_both}
use Rattle.std.proofs.Math.Nat.{le-max_left}
use Rattle.qq_base.specs.Ids.{same_session}
use Rattle.qq_entry.specs.declared.queue.QueueArgs.{QueueArgs}
use Rattle.qq_entry.specs.declared.command.Stamp.{Stamp}
use Rattle.qq_entry.specs.declared.command.Entry.{Entry}
use Rattle.qq_entry.specs.declared.answer.Answer.{Answer}
use Rattle.qq_entry.specs.Command.{stamp}
use Rattle.qq_model.specs.declared.session.OpenSession.{OpenSession}
use Rattle.qq_model.specs.declared.session.Gate.{Gate}
use Rattle.qq_model.specs.declared.session.Gate.TheVariants.{Fresh}
use Rattle.qq_model.specs.State.{State, Sessions, empty_queue}
use Rattle.qq_model.specs.Gate.{IsNumbered, is_ended, session_of, next_mark, kept_answer, repeat_by, raise_mark, change_session, gate, gate_answer, admit, add_answer, keep_answer}
use Rattle.qq_model.specs.Commands.{Acted}
use Rattle.qq_model.specs.Step.{carry_out, go_through, step_by, step}
use Rattle.qq_model.specs.Audit.{next_index, next_step, state_after}
use Rattle.qq_base.proofs.Lists.{AllByRecursion-in, find-in, list_any-map}
use Rattle.qq_model.proofs.Lists.{find-map}
use Rattle.qq_model.proofs.Current.{numbered-plain}
use Rattle.qq_model.proofs.KeptAnswers.{IsKept, Keeps, admit-kept, carry_out-kept, owed_of}
use Rattle.qq_model.proofs.Later.{Guarded, UsedBy, ended-same}
use Rattle.qq_model.proofs.Later.UsedBy.{EndedBy, OpenBy}
use Rattle.qq_model.proofs.LaterBySteps.{Lasts, after-by, carry_out-by}
use Rattle.qq_model.proofs.LaterSteps.{admit-later, next-later}
use Rattle.qq_model.proofs.SessionLemmas.{ended-from, HasEnded, ended-true}
use Rattle.qq_model.proofs.Soundness.{kept_at}
use Rattle.qq_laws.specs.Numbers.{AnswersAsFirst, MarksRise}
use Rattle.qq_laws.proofs.FreshNumbers.{admit-next}
use Rattle.qq_laws.proofs.OnceLemmas.{fresh-gate, guarded_at}
use Rattle.qq_laws.proofs.TurnAway.{repeat-again, repeat-stale, turned_away_if}

get-drop : {A : Type 0} (d k : ℕ) (xs : List A) → slice_get (drop d xs) k ≡ slice_get xs (d + k)
get-drop zero k xs = let e : k ≡ zero + k = omega arith in ap (slice_get xs) e
get-drop (suc d) k [] = refl
get-drop (suc d) k (x ∷ xs) =
    let e : suc (d + k) ≡ suc d + k = omega arith in get-drop d k xs ∙ ap (slice_get (x ∷ xs)) e

get-append : {A : Type 0} (xs ys : List A) (k : ℕ) (x : A) → slice_get xs k ≡ Some x → slice_get (xs ++ ys) k ≡ Some x
get-append [] ys k x found = absurd cc
get-append (y ∷ xs) ys zero x found = found
get-append (y ∷ xs) ys (suc k) x found = get-append xs ys k x found

get-last : {A : Type 0} (xs : List A) (x : A) (k : ℕ) → k ≡ length xs → slice_get (xs ++ x ∷ []) k ≡ Some x
get-last [] x zero same = refl
get-last [] x (suc k) same = absurd (omega arith)
get-last (y ∷ xs) x zero same = absurd (omega arith)
get-last (y ∷ xs) x (suc k) same = get-last xs x k (omega arith)

-- a session remembers the answer to a number, unless it is at or below its mark
abbrev Remembers : ℕ → Answer → OpenSession → Type 0
Remembers seq answer one = one.mark < seq → kept_answer seq one ≡ Some answer

raise-remembers : (seq : ℕ) (answer : Answer) (one : OpenSession) (stamp : Stamp) → Remembers seq answer one
    → Remembers seq answer (raise_mark stamp one)
raise-remembers seq answer one stamp remembers above =
    let up : one.mark ≤ next_mark stamp one = le-max_left one.mark (min stamp.done (one.next - 1)) in
    let place : (next_mark stamp one - one.mark) + (seq - next_mark stamp one - 1) ≡ seq - one.mark - 1 =
    omega (arith, above, up) in
    get-drop (next_mark stamp one - one.mark) (seq - next_mark stamp one - 1) one.kept
    ∙ ap (slice_get one.kept) place ∙ remembers (omega (arith, above, up))

remembers-lasts : (seq : ℕ) (answer : Answer) → Lasts (Remembers seq answer)
remembers-lasts seq answer = record {
  tag = λ one tag remembers above. remembers above;
  raise = λ one stamp remembers. raise-remembers seq answer one stamp remembers;
  answer = λ one more remembers above. get-append one.kept (more ∷ []) (seq - one.mark - 1) answer (remembers above);
}

-- the answer that is kept is remembered
answer-remembered : (s : Sessions) (stamp : Stamp) (answer : Answer) → Keeps (Some stamp) s
    → UsedBy (λ one. one.next ≡ stamp.seq + 1) s stamp.session
    → UsedBy (Remembers stamp.seq answer) (keep_answer stamp answer s) stamp.session
unfolding keep_answer
answer-remembered s stamp answer keeps (EndedBy over) = EndedBy (ended-still over)
  where
    ended-still : HasEnded s stamp.session
        → HasEnded (record s { opened = change_session stamp.session (add_answer answer) s.opened }) stamp.session
    ended-still over =
        ended-true _ stamp.session (ended-same stamp.session s _
        (list_any-map (λ (o : OpenSession). same_session o.session stamp.session) _ s.opened
        (λ o. cond_both (same_session o.session stamp.session) (add_answer answer o) o
        (λ (u : OpenSession). same_session u.session stamp.session ≡ same_session o.session stamp.session)
        (λ _. refl) (λ _. refl))) ∙ ended-from s stamp.session over)
answer-remembered s stamp answer keeps (OpenBy one found next) =
    let test : OpenSession → Bool = λ o. same_session o.session stamp.session in
    let f : OpenSession → OpenSession = λ o. if test o then add_answer answer o else o in
    let some = find-in test s.opened one found in
    let is : f one ≡ add_answer answer one = cond-true (test one) (add_answer answer one) one some.1 in
    let same : (o : OpenSession) → test (f o) ≡ test o =
    λ o. cond_both (test o) (add_answer answer o) o (λ (u : OpenSession). test u ≡ test o) (λ _. refl) (λ _. refl) in
    let kept : IsKept 1 one =
    subst (λ (n : ℕ). IsKept n one) (cond-true (test one) 1 0 some.1)
    (AllByRecursion-in (λ (o : OpenSession). IsKept (owed_of (Some stamp) o) o) one s.opened keeps.each some.0) in
    OpenBy (add_answer answer one)
    (find-map test f s.opened one same found ∙ ap (λ (o : OpenSession). Some o) is)
    (λ above. get-last one.kept answer (stamp.seq - one.mark - 1) (omega (arith, next, kept.next)))

-- what was carried out is remembered
first-remembered : (s : State) (entry : Entry) (given : Stamp) → IsNumbered given.session → Keeps None s.sessions
    → Guarded s.sessions → stamp entry.command ≡ Some given → gate s.sessions given ≡ Fresh
    → UsedBy (Remembers given.seq (next_step s entry).answer) (next_step s entry).state.sessions given.session
unfolding step
first-remembered s entry stamp numbered keeps guarded is fresh =
    let x : Sessions = admit s.sessions stamp in
    let a : Acted = carry_out (next_index s) entry.command (record s { sessions = x }) in
    let kept = carry_out-kept (Some stamp) (next_index s) entry.command (record s { sessions = x })
    (admit-kept s.sessions stamp fresh keeps) in
    let later =
    carry_out-by (λ one. one.next ≡ stamp.seq + 1) stamp.session (next_index s) entry.command
    (record s { sessions = x })
    (λ one tag next. next) numbered in
    let next = later.used ((admit-later stamp.session s.sessions stamp fresh).guarded guarded)
    (admit-next s.sessions stamp (numbered-plain stamp.session numbered) fresh) in
    let done : UsedBy (Remembers stamp.seq a.answer) (keep_answer stamp a.answer a.progress.state.sessions)
    stamp.session =
    answer-remembered a.progress.state.sessions stamp a.answer kept next in
    let at : Gate → Type 0 = λ g. let made = go_through g (next_index s) stamp entry.command s in
    UsedBy (Remembers stamp.seq made.answer) made.state.sessions stamp.session in
    let by : Option Stamp → Type 0 = λ o. let made = step_by o (next_index s) entry.command s in
    UsedBy (Remembers stamp.seq made.answer) made.state.sessions stamp.session in
    subst by (sym is) (subst at (sym fresh) done)

pub answers_as_first : (args : QueueArgs) (before : List Entry)
    → AnswersAsFirst (state_after (empty_queue args) before)
answers_as_first args before first second given again between one numbered is fresh some session seq repeat =
    let s : State = state_after (empty_queue args) before in
    let answer : Answer = (next_step s first).answer in
    let t : State = (next_step s first).state in
    let u : State = state_after t between in
    let Q : OpenSession → Type 0 = Remembers given.seq answer in
    let guarded = guarded_at given.session args before numbered in
    let done = first-remembered s first given numbered (kept_at args before) guarded is
    (fresh-gate s first given is fresh) in
    let still =
    (after-by Q given.session t between (remembers-lasts given.seq answer)
    (λ other own o remembers. raise-remembers given.seq answer o other remembers) numbered).used
    ((next-later given.session s first numbered).guarded guarded) done in
    let mine : UsedBy Q u.sessions again.session = subst (UsedBy Q u.sessions) (sym session) still in
    by mine
  where
    done : State
    done = state_after (next_step (state_after (empty_queue args) before) first).state between

    answer : Answer
    answer = (next_step (state_after (empty_queue args) before) first).answer

    by : UsedBy (Remembers given.seq answer) done.sessions again.session → (next_step done second).answer ≡ answer
    by (EndedBy over) = absurd (false≢true (sym repeat.going ∙ ended-from done.sessions again.session over))
    by (OpenBy other found remembers) =
        let e : Some other ≡ Some one = sym found ∙ repeat.repeat.opened in
        let itself : other ≡ one = cc in
        let above : other.mark < given.seq =
        let up : one.mark ≤ next_mark again one = le-max_left one.mark (min again.done (one.next - 1)) in
        let less = repeat.above in
        let same : other.mark ≡ one.mark = ap (λ (o : OpenSession). o.mark) itself in
        omega (arith, up, less, seq, same) in
        let kept : kept_answer again.seq one ≡ Some answer =
        ap (λ n. kept_answer n one) seq ∙ ap (kept_answer given.seq) (sym itself) ∙ remembers above in
        let away =
        turned_away_if done second again some (repeat-stale done.sessions again one repeat.repeat) in
        away.answer answer ∙ ap (λ g. gate_answer g answer)
        (repeat-again done.sessions again one repeat ∙ ap repeat_by kept)

-- Marks ------------------------------------------------------------------------------------------------------

pub marks_rise : (args : QueueArgs) (before : List Entry) → MarksRise (state_after (empty_queue args) before)
marks_rise args before entries session one numbered found =
    let s : State = state_after (empty_queue args) before in
    let Q : OpenSession → Type 0 = λ other. (one.mark ≤ other.mark) × (one.next ≤ other.next) in
    let up : (stamp : Stamp) (other : OpenSession) → other.mark ≤ next_mark stamp other =
    λ stamp other. le-max_left other.mark (min stamp.done (other.next - 1)) in
    let lasts : Lasts Q = record {
      tag = λ other tag q. q;
      raise = λ other stamp q. (omega (arith, q.0, up stamp other), q.1);
      answer = λ other answer q. q;
    } in
    read (state_after s entries).sessions
    ((after-by Q session s entries lasts
    (λ stamp own other q. (omega (arith, q.0, up stamp other), omega (arith, q.1)))
    numbered).used (guarded_at session args before numbered) (OpenBy one found (omega arith, omega arith)))
  where
    read : (t : Sessions)
        → UsedBy (λ (other : OpenSession). (one.mark ≤ other.mark) × (one.next ≤ other.next)) t session
        → (is_ended t session ≡ true)
        ⊎ ((other : OpenSession) × (session_of session t.opened ≡ Some other) × (one.mark ≤ other.mark)
        × (one.next ≤ other.next))
    read t (EndedBy over) = inl (ended-from t session over)
    read t (OpenBy other found holds) = inr (other, found, holds.0, holds.1)
