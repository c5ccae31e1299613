-- What a kept answer says of its session, and what the session's next number would be answered.
use Rattle.std.proofs.Common.{◌≡◌, ℕ, ◌-◌, ◌<◌, ◌≤◌, ◌⊎◌, Bool, true, false, cond, not, ◌||◌, Option, Some, None, refl, sym, ap, ◌∙◌, inl, inr, length, arith}
use Rattle.std.specs.Prelude.{nat_eq, nat_le, nat_lt}
use Rattle.std.proofs.lemmas.Bool.{cases_lt, cond-true, cond-false, cond_both, le-ltb, le-leb, lt-leb}
use Rattle.qq_base.specs.declared.ids.SessionId.{SessionId}
use Rattle.qq_entry.specs.declared.command.Stamp.{Stamp}
use Rattle.qq_entry.specs.declared.answer.Answer.{Answer}
use Rattle.qq_model.specs.declared.TheConstants.{WINDOW, MOST_OPEN, MOST_SEEN}
use Rattle.qq_model.specs.declared.session.Gate.{Gate}
use Rattle.qq_model.specs.declared.session.Gate.TheVariants.{Fresh, Again, Gap, Forgotten, Ended, WindowFull, SessionsFull}
use Rattle.qq_model.specs.declared.session.OpenSession.{OpenSession}
use Rattle.qq_model.specs.State.{Sessions}
use Rattle.qq_model.specs.Gate.{is_dead_letter, is_ended, session_of, next_mark, repeat_by, kept_answer, gate_number, gate_unknown, gate_by, gate}
use Rattle.qq_laws.specs.Once.{IsOpenRepeat}

abbrev IsAgain : Answer → Gate → Type 0
IsAgain before g = g ≡ Again before

-- the checks of a session that isn't known, and those above its numbers, give no kept answer
unknown-again : (s : Sessions) (given : Stamp) (before : Answer) → IsAgain before (gate_unknown s given) → ⊥
unknown-again s given before =
    cond_both (not (nat_eq given.seq 1)) (Gap 1)
    (cond (nat_le MOST_OPEN (length s.opened) || nat_le MOST_SEEN s.seen) SessionsFull Fresh)
    (λ (g : Gate). IsAgain before g → ⊥) (λ _ is. cc)
    (λ _. cond_both (nat_le MOST_OPEN (length s.opened) || nat_le MOST_SEEN s.seen) SessionsFull Fresh
    (λ (g : Gate). IsAgain before g → ⊥) (λ _ is. cc) (λ _ is. cc))

abbrev above_next : Stamp → OpenSession → Gate
above_next given one =
    cond (nat_lt one.next given.seq) (Gap one.next)
    (cond (nat_eq (one.next - 1 - next_mark given one) WINDOW) WindowFull Fresh)

above-again : (given : Stamp) (one : OpenSession) (before : Answer) → IsAgain before (above_next given one) → ⊥
above-again given one before =
    cond_both (nat_lt one.next given.seq) (Gap one.next)
    (cond (nat_eq (one.next - 1 - next_mark given one) WINDOW) WindowFull Fresh)
    (λ (g : Gate). IsAgain before g → ⊥) (λ _ is. cc)
    (λ _. cond_both (nat_eq (one.next - 1 - next_mark given one) WINDOW) WindowFull Fresh
    (λ (g : Gate). IsAgain before g → ⊥) (λ _ is. cc) (λ _ is. cc))

number-again : (given : Stamp) (one : OpenSession) (before : Answer) → IsAgain before (gate_number given one)
    → (next_mark given one < given.seq) × (given.seq < one.next)
number-again given one before is = (by_low (cases_lt (next_mark given one) given.seq), by_next (cases_lt given.seq one.next))
  where
    rest : Gate
    rest = cond (nat_lt given.seq one.next) (repeat_by (kept_answer given.seq one)) (above_next given one)

    by_low : ((next_mark given one < given.seq) ⊎ (given.seq ≤ next_mark given one)) → next_mark given one < given.seq
    by_low (inl lt) = lt
    by_low (inr le) =
        let e : Forgotten ≡ Again before =
        sym (cond-true (nat_le given.seq (next_mark given one)) Forgotten rest (le-leb given.seq (next_mark given one) le))
        ∙ is in
        absurd cc

    by_next : ((given.seq < one.next) ⊎ (one.next ≤ given.seq)) → given.seq < one.next
    by_next (inl lt) = lt
    by_next (inr le) =
        let past = cond-false (nat_lt given.seq one.next) (repeat_by (kept_answer given.seq one)) (above_next given one)
        (le-ltb given.seq one.next le) in
        absurd (cond_both (nat_le given.seq (next_mark given one)) Forgotten rest (λ (g : Gate). IsAgain before g → ⊥)
        (λ _ e. cc) (λ _ e. above-again given one before (sym past ∙ e)) is)

-- a command that gets a kept answer is a repeat of a session that goes on, above its low mark
pub again-repeats : (s : Sessions) (given : Stamp) (before : Answer) → is_dead_letter given.session ≡ false
    → gate s given ≡ Again before → (one : OpenSession) × IsOpenRepeat s given one
unfolding gate
again-repeats s given before plain again =
    by_ended (is_ended s given.session) refl
    (sym (cond-false (is_dead_letter given.session) Fresh
    (cond (is_ended s given.session) Ended (gate_by (session_of given.session s.opened) s given)) plain) ∙ again)
  where
    by_session : (o : Option OpenSession) → session_of given.session s.opened ≡ o
        → is_ended s given.session ≡ false → IsAgain before (gate_by o s given)
        → (one : OpenSession) × IsOpenRepeat s given one
    by_session None found going is = absurd (unknown-again s given before is)
    by_session (Some one) found going is =
        let numbers = number-again given one before is in (
          one,
          record {
            repeat = record { numbered = plain; opened = found; below = numbers.1 };
            going = going;
            above = numbers.0;
          },
        )

    by_ended : (e : Bool) → is_ended s given.session ≡ e
        → cond e Ended (gate_by (session_of given.session s.opened) s given) ≡ Again before
        → (one : OpenSession) × IsOpenRepeat s given one
    by_ended true over is = let e : Ended ≡ Again before = is in absurd cc
    by_ended false going is = by_session (session_of given.session s.opened) refl going is

-- a stamp of the session's next number that acknowledges all before it
abbrev pub probe : SessionId → OpenSession → Stamp
probe session one = record { session = session; seq = one.next; done = one.next - 1 }

-- is let in
pub probe-fresh : (s : Sessions) (session : SessionId) (one : OpenSession) → is_dead_letter session ≡ false
    → is_ended s session ≡ false → session_of session s.opened ≡ Some one → one.mark < one.next
    → gate s (probe session one) ≡ Fresh
unfolding gate
probe-fresh s session one plain going found below =
    let given : Stamp = probe session one in
    let mark : ℕ = next_mark given one in
    let lt : next_mark given one < one.next = omega (arith, below) in
    let none : one.next - 1 - next_mark given one ≡ 0 = omega (arith, below) in
    let inner : Gate = cond (nat_eq (one.next - 1 - mark) WINDOW) WindowFull Fresh in
    let above : Gate = cond (nat_lt one.next one.next) (Gap one.next) inner in
    cond-false (is_dead_letter session) Fresh
    (cond (is_ended s session) Ended (gate_by (session_of session s.opened) s given)) plain
    ∙ cond-false (is_ended s session) Ended (gate_by (session_of session s.opened) s given) going
    ∙ ap (λ (o : Option OpenSession). gate_by o s given) found
    ∙ cond-false (nat_le one.next mark) Forgotten
    (cond (nat_lt one.next one.next) (repeat_by (kept_answer one.next one)) above) (lt-leb one.next mark lt)
    ∙ cond-false (nat_lt one.next one.next) (repeat_by (kept_answer one.next one)) above
    (le-ltb one.next one.next (omega arith))
    ∙ cond-false (nat_lt one.next one.next) (Gap one.next) inner (le-ltb one.next one.next (omega arith))
    ∙ cond-false (nat_eq (one.next - 1 - mark) WINDOW) WindowFull Fresh (ap (λ (n : ℕ). nat_eq n WINDOW) none)
