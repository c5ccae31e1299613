-- What the gate does.
use Rattle.std.proofs.Common.{◌≡◌, false, cond, Option, Some, None, refl, sym, ap, ◌∙◌, subst}
use Rattle.std.specs.Prelude.{nat_le, nat_lt}
use Rattle.std.proofs.lemmas.Bool.{false≢true, cond-true, cond-false, cond_both, lt-leb, lt-ltb}
use Rattle.qq_entry.specs.declared.command.Stamp.{Stamp}
use Rattle.qq_entry.specs.declared.command.Entry.{Entry}
use Rattle.qq_entry.specs.declared.answer.Answer.{Answer}
use Rattle.qq_model.specs.declared.session.Gate.{Gate}
use Rattle.qq_model.specs.declared.session.Gate.TheVariants.{Fresh, Again, Gap, Forgotten, Ended, WindowFull, SessionsFull}
use Rattle.qq_model.specs.declared.session.OpenSession.{OpenSession}
use Rattle.qq_model.specs.State.{State, Sessions}
use Rattle.qq_model.specs.Gate.{is_dead_letter, is_ended, session_of, next_mark, kept_answer, repeat_by, gate_number, gate_by, gate, gate_answer}
use Rattle.qq_entry.specs.Command.{stamp}
use Rattle.qq_model.specs.Step.{go_through, step_by, step}
use Rattle.qq_model.specs.Audit.{next_index, next_step}
use Rattle.qq_laws.specs.Once.{is_fresh, is_let_in, IsTurnedAway, IsRepeat, IsOpenRepeat}

pub fresh_if_let_in : (s : State) (entry : Entry)
    → (next_step s entry).fresh ≡ is_let_in s.sessions (stamp entry.command)
unfolding step
fresh_if_let_in s entry = by (stamp entry.command)
  where
    passes : (g : Gate) (stamp : Stamp) → (go_through g (next_index s) stamp entry.command s).fresh ≡ is_fresh g
    passes Fresh stamp = refl
    passes _ stamp = refl

    by : (o : Option Stamp) → (step_by o (next_index s) entry.command s).fresh ≡ is_let_in s.sessions o
    by None = refl
    by (Some stamp) = passes (gate s.sessions stamp) stamp

pub turned_away_if : (s : State) (entry : Entry) (given : Stamp) → stamp entry.command ≡ Some given
    → is_fresh (gate s.sessions given) ≡ false → IsTurnedAway s given (next_step s entry)
unfolding step
turned_away_if s entry given is stale = by (stamp entry.command) is
  where
    passes : (g : Gate) → gate s.sessions given ≡ g → is_fresh g ≡ false
        → IsTurnedAway s given (go_through g (next_index s) given entry.command s)
    passes Fresh same no' = absurd (false≢true (sym no'))
    passes (Again before) same no' =
        record { state = refl; answer = λ answer. sym (ap (λ g. gate_answer g answer) same); effects = refl }
    passes (Gap next) same no' =
        record { state = refl; answer = λ answer. sym (ap (λ g. gate_answer g answer) same); effects = refl }
    passes Forgotten same no' =
        record { state = refl; answer = λ answer. sym (ap (λ g. gate_answer g answer) same); effects = refl }
    passes Ended same no' =
        record { state = refl; answer = λ answer. sym (ap (λ g. gate_answer g answer) same); effects = refl }
    passes WindowFull same no' =
        record { state = refl; answer = λ answer. sym (ap (λ g. gate_answer g answer) same); effects = refl }
    passes SessionsFull same no' =
        record { state = refl; answer = λ answer. sym (ap (λ g. gate_answer g answer) same); effects = refl }

    by : (o : Option Stamp) → o ≡ Some given → IsTurnedAway s given (step_by o (next_index s) entry.command s)
    by None is = absurd cc
    by (Some other) is =
        let same : other ≡ given = cc in
        subst (λ (one : Stamp). IsTurnedAway s given
        (go_through (gate s.sessions one) (next_index s) one entry.command s)) (sym same)
        (passes (gate s.sessions given) refl stale)

-- a repeat is one of the numbers below the session's next
pub repeat-numbered : (s : Sessions) (stamp : Stamp) (one : OpenSession) → IsRepeat s stamp one
    → gate s stamp ≡ cond (is_ended s stamp.session) Ended (gate_number stamp one)
unfolding gate
repeat-numbered s stamp one repeat =
    cond-false (is_dead_letter stamp.session) Fresh
    (cond (is_ended s stamp.session) Ended (gate_by (session_of stamp.session s.opened) s stamp)) repeat.numbered
    ∙ ap (λ o. cond (is_ended s stamp.session) Ended (gate_by o s stamp)) repeat.opened

repeat_by-stale : (o : Option Answer) → is_fresh (repeat_by o) ≡ false
repeat_by-stale None = refl
repeat_by-stale (Some answer) = refl

pub repeat-stale : (s : Sessions) (stamp : Stamp) (one : OpenSession) → IsRepeat s stamp one
    → is_fresh (gate s stamp) ≡ false
repeat-stale s stamp one repeat =
    ap is_fresh (repeat-numbered s stamp one repeat)
    ∙ cond_both (is_ended s stamp.session) Ended (gate_number stamp one) (λ (g : Gate). is_fresh g ≡ false)
    (λ _. refl)
    (λ _.
    cond_both (nat_le stamp.seq (next_mark stamp one)) Forgotten _ (λ (g : Gate). is_fresh g ≡ false) (λ _. refl)
    (λ _.
    ap is_fresh (cond-true (nat_lt stamp.seq one.next) (repeat_by (kept_answer stamp.seq one)) _
    (lt-ltb stamp.seq one.next repeat.below)) ∙ repeat_by-stale (kept_answer stamp.seq one)))

pub repeat-again : (s : Sessions) (stamp : Stamp) (one : OpenSession) → IsOpenRepeat s stamp one
    → gate s stamp ≡ repeat_by (kept_answer stamp.seq one)
repeat-again s stamp one open' =
    repeat-numbered s stamp one open'.repeat
    ∙ cond-false (is_ended s stamp.session) Ended (gate_number stamp one) open'.going
    ∙ cond-false (nat_le stamp.seq (next_mark stamp one)) Forgotten _
    (lt-leb stamp.seq (next_mark stamp one) open'.above)
    ∙ cond-true (nat_lt stamp.seq one.next) (repeat_by (kept_answer stamp.seq one)) _
    (lt-ltb stamp.seq one.next open'.repeat.below)
