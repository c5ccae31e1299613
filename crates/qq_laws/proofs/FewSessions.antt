-- Few sessions are open, and few were seen.
use Rattle.std.proofs.Common.{◌≡◌, ℕ, ◌+◌, ◌<◌, ◌≤◌, Bool, true, false, not, ◌&&◌, ◌||◌, List, [], ◌∷◌, Option, Some, None, length, refl, sym, ap, ◌∙◌, subst, inl, inr, arith, length-append, if◌then◌else◌}
use Rattle.std.specs.Prelude.{filter, nat_eq, nat_le, nat_lt}
use Rattle.std.proofs.lemmas.Bool.{false≢true, cases_Bool, cond-true, cond-false, cond_both, and_parts, or_parts, leb-false, ltb-true}
use Rattle.std.proofs.lemmas.List.{length-map}
use Rattle.std.proofs.lemmas.List.Sums.{count_by-le-length, length-filter}
use Rattle.qq_base.specs.declared.ids.Index.{Index}
use Rattle.qq_base.specs.declared.ids.SessionId.{SessionId}
use Rattle.qq_base.specs.Ids.{same_session}
use Rattle.qq_entry.specs.Command.{stamp}
use Rattle.qq_entry.specs.declared.answer.Answer.{Answer}
use Rattle.qq_entry.specs.declared.command.Command.{Command}
use Rattle.qq_entry.specs.declared.command.Entry.{Entry}
use Rattle.qq_entry.specs.declared.command.Stamp.{Stamp}
use Rattle.qq_entry.specs.declared.queue.QueueArgs.{QueueArgs}
use Rattle.qq_model.specs.declared.TheConstants.{MOST_OPEN, MOST_SEEN}
use Rattle.qq_model.specs.declared.session.Gate.{Gate}
use Rattle.qq_model.specs.declared.session.Gate.TheVariants.{Ended, Fresh, Gap, SessionsFull}
use Rattle.qq_model.specs.declared.session.OpenSession.{OpenSession}
use Rattle.qq_model.specs.State.{State, Sessions, empty_queue}
use Rattle.qq_model.specs.Gate.{add_answer, admit, change_session, end_session, gate, gate_by, is_client, is_dead_letter, is_end_remembered, is_ended, is_giving_way, is_open, keep_answer, new_session, open_session, put_ended, raise_mark, session_of, set_tag, take_tag, turn_away, use_number}
use Rattle.qq_model.specs.Step.{carry_out, go_through, step_by, step}
use Rattle.qq_model.specs.Audit.{next_index, next_step, state_after}
use Rattle.qq_model.proofs.CarryOut.{carry_out-keeps}
use Rattle.qq_model.proofs.Lists.{list_any-found}
use Rattle.qq_model.proofs.SingleChanges.{Acts, KeepsRows, Serves}
use Rattle.qq_laws.specs.Closing.{BeginsAtOne, HasFewSessions}

-- A session that isn't known ---------------------------------------------------------------------------

unknown : (s : Sessions) (session : SessionId) → is_open session s.opened ≡ false
    → session_of session s.opened ≡ None
unknown s session shut = by (session_of session s.opened) refl
  where
    by : (o : Option OpenSession) → session_of session s.opened ≡ o → o ≡ None
    by None found = refl
    by (Some one) found =
        absurd (false≢true (sym shut
        ∙ list_any-found (λ (other : OpenSession). same_session other.session session) s.opened one found))

pub begins_at_one : (s : Sessions) (given : Stamp) → BeginsAtOne s given
unfolding gate
begins_at_one s given plain going shut =
    cond-false (is_dead_letter given.session) Fresh _ plain ∙ cond-false (is_ended s given.session) Ended _ going
    ∙ ap (λ o. gate_by o s given) (unknown s given.session shut)

-- where it is let in, there is room
room : (s : Sessions) (given : Stamp) → is_dead_letter given.session ≡ false
    → is_open given.session s.opened ≡ false → gate s given ≡ Fresh
    → (length s.opened < MOST_OPEN) × (s.seen < MOST_SEEN)
unfolding gate
room s given plain shut fresh = elim (cases_Bool (is_ended s given.session)) [
  | inl over ↦
      let told : Ended ≡ Fresh =
      sym (cond-true (is_ended s given.session) Ended _ over)
      ∙ sym (cond-false (is_dead_letter given.session) Fresh _ plain) ∙ fresh in
      absurd cc
  | inr going ↦
      let told = sym (begins_at_one s given plain going shut) ∙ fresh in
      elim (cases_Bool (not (nat_eq given.seq 1))) [
        | inl other ↦
            let gap : Gap 1 ≡ Fresh = sym (cond-true (not (nat_eq given.seq 1)) (Gap 1) _ other) ∙ told in absurd cc
        | inr first ↦
            let onward = sym (cond-false (not (nat_eq given.seq 1)) (Gap 1) _ first) ∙ told in
            elim (cases_Bool (nat_le MOST_OPEN (length s.opened) || nat_le MOST_SEEN s.seen)) [
              | inl full ↦
                  let refused : SessionsFull ≡ Fresh =
                  sym (cond-true (nat_le MOST_OPEN (length s.opened) || nat_le MOST_SEEN s.seen) SessionsFull Fresh
                  full) ∙ onward in
                  absurd cc
              | inr free ↦
                  let parts = or_parts (nat_le MOST_OPEN (length s.opened)) (nat_le MOST_SEEN s.seen) free in
                  (leb-false MOST_OPEN (length s.opened) parts.0, leb-false MOST_SEEN s.seen parts.1)
            ]
      ]
]

-- Few --------------------------------------------------------------------------------------------------

record Few (x : Sessions) : Type 0 where
  opened : length x.opened ≤ MOST_OPEN
  seen : x.seen ≤ MOST_SEEN

few-changed : (x : Sessions) (session : SessionId) (f : OpenSession → OpenSession) → Few x
    → Few (record x { opened = change_session session f x.opened })
few-changed x session f few =
    let same = length-map x.opened (λ (one : OpenSession). if same_session one.session session then f one else one) in
    record { opened = omega (arith, same, few.opened); seen = few.seen }

fewer : (keeps : OpenSession → Bool) (opened : List OpenSession) → length (filter keeps opened) ≤ length opened
fewer keeps opened = omega (arith, length-filter keeps opened, count_by-le-length keeps opened)

few-turned_away : (x : Sessions) (given : Stamp) → Few x → Few (turn_away x given)
unfolding turn_away
few-turned_away x given few =
    cond_both (is_ended x given.session) x _ Few (λ _. few)
    (λ _. few-changed x given.session (raise_mark given) few)

few-answered : (x : Sessions) (given : Stamp) (answer : Answer) → Few x → Few (keep_answer given answer x)
unfolding keep_answer
few-answered x given answer few = few-changed x given.session (add_answer answer) few

few-tagged : (x : Sessions) (session : SessionId) (tag : ℕ) → Few x → Few (take_tag session tag x)
unfolding take_tag
few-tagged x session tag few = few-changed x session (set_tag tag) few

few-admitted : (x : Sessions) (given : Stamp) → gate x given ≡ Fresh → Few x → Few (admit x given)
unfolding admit
few-admitted x given fresh few =
    cond_both (is_dead_letter given.session) x _ Few (λ _. few) (λ plain.
    cond_both (is_open given.session x.opened) _ (open_session x given) Few
    (λ _. few-changed x given.session (use_number given) few) (λ shut. opens (room x given plain shut fresh)))
  where
    opens : (length x.opened < MOST_OPEN) × (x.seen < MOST_SEEN) → Few (open_session x given)
    opens free =
        let keeps : OpenSession → Bool = λ one. not (is_giving_way given.session one) in
        let less = fewer keeps x.opened in
        let one = length-append (filter keeps x.opened) (new_session given ∷ []) in
        record { opened = omega (arith, less, one, free.0); seen = omega (arith, free.1) }

few-ended : (x : Sessions) (session : SessionId) → Few x → Few (end_session x session)
unfolding end_session
few-ended x session few =
    cond_both (is_open session x.opened) _ _ Few
    (λ _. let less = fewer (λ (one : OpenSession). not (same_session one.session session)) x.opened in
    record { opened = omega (arith, less, few.opened); seen = few.seen })
    (λ _. cond_both (is_end_remembered x session)
    (record x { ended = put_ended session.number x.ended; seen = x.seen + 1 }) x Few (λ may.
    let less : x.seen < MOST_SEEN = ltb-true x.seen MOST_SEEN (remembered may) in
    record { opened = few.opened; seen = omega (arith, less) }) (λ _. few))
  where
    remembered : is_end_remembered x session ≡ true → nat_lt x.seen MOST_SEEN ≡ true
    remembered may =
        (and_parts (is_client session && not (is_ended x session)) (nat_lt x.seen MOST_SEEN) may).1

Few-rows : (command : Command) → KeepsRows command (λ p. Few p.state.sessions)
Few-rows command = record { row = λ p q old new few here moves out why turns. subst Few (sym turns.sessions) few }

Few-acts : (command : Command) → Acts command (λ p. Few p.state.sessions)
Few-acts command = record {
  rows = Few-rows command;
  purge = λ p few purges. few;
  attach = λ p term few least greater. few;
  join = λ p id mode few above own. few-tagged p.state.sessions id.session id.tag few;
  cancel = λ p id consumer few found. few;
  finish = λ p few. few;
  credit = λ p id consumer credit few found. few;
  turn = λ p id consumer few found. few;
  leave = λ p session few is same none. few-ended p.state.sessions session few;
}

Few-serves : (command : Command) → Serves command (λ p. Few p.state.sessions)
Few-serves command = record {
  rows = Few-rows command;
  offer = λ p number cause row few here is next may full. few;
  drain = λ p id consumer few found. few;
}

carried-few : (index : Index) (command : Command) (s : State) → Few s.sessions
    → Few (carry_out index command s).progress.state.sessions
carried-few index command s few =
    carry_out-keeps {I = λ p. Few p.state.sessions} index command s (Few-acts command)
    (λ p row consumer few found next. few) (Few-serves command) (λ p given message few is found. few) few

next-few : (s : State) (entry : Entry) → Few s.sessions → Few (next_step s entry).state.sessions
unfolding step
next-few s entry few = by (stamp entry.command)
  where
    passes : (g : Gate) (given : Stamp) → gate s.sessions given ≡ g
        → Few (go_through g (next_index s) given entry.command s).state.sessions
    passes Fresh given is =
        few-answered _ given _
        (carried-few (next_index s) entry.command (record s { sessions = admit s.sessions given })
        (few-admitted s.sessions given is few))
    passes _ given is = few-turned_away s.sessions given few

    by : (o : Option Stamp) → Few (step_by o (next_index s) entry.command s).state.sessions
    by None = carried-few (next_index s) entry.command s few
    by (Some given) = passes (gate s.sessions given) given refl

few-after : (s : State) (entries : List Entry) → Few s.sessions → Few (state_after s entries).sessions
few-after s [] few = few
few-after s (entry ∷ entries) few = few-after (next_step s entry).state entries (next-few s entry few)

pub has_few_sessions : (args : QueueArgs) (entries : List Entry)
    → HasFewSessions (state_after (empty_queue args) entries)
has_few_sessions args entries =
    let few = few-after (empty_queue args) entries (record { opened = omega arith; seen = omega arith }) in
    record { opened = few.opened; seen = few.seen }
