-- What is known of a session lasts through each entry.
use Rattle.std.proofs.Common.{◌≡◌, ◌<◌, ◌⊎◌, true, false, cond, List, [], ◌∷◌, Option, Some, None, refl, sym, ap, ◌∙◌, subst, inl, inr, arith, if◌then◌else◌}
use Rattle.std.specs.Prelude.{nat_le}
use Rattle.std.proofs.lemmas.Bool.{cases_Bool, cond-true, cond-false, cond_both, leb-false}
use Rattle.qq_base.specs.declared.ids.Index.{Index}
use Rattle.qq_base.specs.declared.ids.SessionId.{SessionId}
use Rattle.qq_base.specs.declared.ids.ConsumerId.{ConsumerId}
use Rattle.qq_entry.specs.declared.command.Stamp.{Stamp}
use Rattle.qq_entry.specs.declared.command.Command.{Command}
use Rattle.qq_entry.specs.declared.command.Entry.{Entry}
use Rattle.qq_entry.specs.declared.answer.Answer.{Answer}
use Rattle.qq_model.specs.declared.session.Gate.{Gate}
use Rattle.qq_model.specs.declared.session.Gate.TheVariants.{Fresh, Ended}
use Rattle.qq_model.specs.State.{State, Sessions}
use Rattle.qq_model.specs.Commands.{Acted}
use Rattle.qq_model.specs.Gate.{is_dead_letter, session_of, is_open, is_ended, raise_mark, use_number, open_session, gate_by, gate, admit, turn_away, add_answer, keep_answer, set_tag, tag_by, greatest_tag, take_tag, change_session, end_session, IsNumbered}
use Rattle.qq_entry.specs.Command.{stamp}
use Rattle.qq_model.specs.Step.{carry_out, go_through, step_by, step}
use Rattle.qq_model.specs.Audit.{next_index, next_step, state_after}
use Rattle.qq_model.proofs.CarryOut.{carry_out-keeps}
use Rattle.qq_model.proofs.Ending.{Later-ends}
use Rattle.qq_model.proofs.Later.{Later, Later-same, Later-trans, Later-with_session}
use Rattle.qq_model.proofs.Opening.{Later-opened}
use Rattle.qq_model.proofs.SingleChanges.{Acts, KeepsRows}

pub tag-later : (session : SessionId) (s : Sessions) (id : ConsumerId)
    → nat_le id.tag (greatest_tag id.session s) ≡ false → Later session s (take_tag id.session id.tag s)
unfolding take_tag
tag-later session s id above =
    Later-with_session session s id.session (set_tag id.tag) (λ one. refl)
    (λ one found.
    let less : greatest_tag id.session s < id.tag = leb-false id.tag (greatest_tag id.session s) above in
    let is : greatest_tag id.session s ≡ one.tag = ap tag_by found in
    (omega arith, omega arith))

Later-rows : (session : SessionId) (s : Sessions) (command : Command)
    → KeepsRows command (λ p. Later session s p.state.sessions)
Later-rows session s command =
    record { row = λ p q old new later here moves out why turns. subst (Later session s) (sym turns.sessions) later }

Later-acts : (session : SessionId) (s : Sessions) (command : Command) → IsNumbered session
    → Acts command (λ p. Later session s p.state.sessions)
Later-acts session s command numbered = record {
  rows = Later-rows session s command;
  purge = λ p later purges. later;
  attach = λ p term later least greater. later;
  join =
      λ p id mode later above own. Later-trans session s p.state.sessions
      (take_tag id.session id.tag p.state.sessions)
      later (tag-later session p.state.sessions id above);
  cancel = λ p id consumer later found. later;
  finish = λ p later. later;
  credit = λ p id consumer credit later found. later;
  turn = λ p id consumer later found. later;
  leave =
      λ p id later is same none. Later-trans session s p.state.sessions (end_session p.state.sessions id) later
      (Later-ends session p.state.sessions id numbered);
}

pub carry_out-later : (session : SessionId) (index : Index) (command : Command) (s : State) → IsNumbered session
    → Later session s.sessions (carry_out index command s).progress.state.sessions
carry_out-later session index command s numbered =
    carry_out-keeps {I = λ p. Later session s.sessions p.state.sessions} index command s
    (Later-acts session s.sessions command numbered) (λ p row consumer later found next. later)
    (record {
      rows = Later-rows session s.sessions command;
      offer = λ p number reason row later here is found may full. later;
      drain = λ p id consumer later found. later;
    })
    (λ p stamp message later is found. later) (Later-same session s.sessions)

-- at the gate ----------------------------------------------------------------------------------------------

Ended≢Fresh : Ended ≡ Fresh → ⊥
Ended≢Fresh same = cc

-- what was let in, but a dead letter, is of a session that hasn't ended
pub fresh-going : (s : Sessions) (stamp : Stamp) → is_dead_letter stamp.session ≡ false → gate s stamp ≡ Fresh
    → is_ended s stamp.session ≡ false
unfolding gate
fresh-going s stamp plain fresh = elim (cases_Bool (is_ended s stamp.session)) [
  | inr going ↦ going
  | inl over ↦ absurd (Ended≢Fresh (
      sym (cond-false (is_dead_letter stamp.session) Fresh
      (cond (is_ended s stamp.session) Ended (gate_by (session_of stamp.session s.opened) s stamp)) plain
      ∙ cond-true (is_ended s stamp.session) Ended (gate_by (session_of stamp.session s.opened) s stamp) over)
      ∙ fresh))
]

-- and passed the checks of its number
pub fresh-checked : (s : Sessions) (stamp : Stamp) → is_dead_letter stamp.session ≡ false → gate s stamp ≡ Fresh
    → gate_by (session_of stamp.session s.opened) s stamp ≡ Fresh
unfolding gate
fresh-checked s stamp plain fresh =
    sym (cond-false (is_dead_letter stamp.session) Fresh
    (cond (is_ended s stamp.session) Ended (gate_by (session_of stamp.session s.opened) s stamp)) plain
    ∙ cond-false (is_ended s stamp.session) Ended (gate_by (session_of stamp.session s.opened) s stamp)
    (fresh-going s stamp plain fresh)) ∙ fresh

pub admit-later : (session : SessionId) (s : Sessions) (stamp : Stamp) → gate s stamp ≡ Fresh
    → Later session s (admit s stamp)
unfolding admit
admit-later session s stamp fresh = by (cases_Bool (is_dead_letter stamp.session))
  where
    opens : Sessions
    opens =
        if is_open stamp.session s.opened
        then record s { opened = change_session stamp.session (use_number stamp) s.opened } else open_session s stamp

    by : (is_dead_letter stamp.session ≡ true) ⊎ (is_dead_letter stamp.session ≡ false)
        → Later session s (cond (is_dead_letter stamp.session) s opens)
    by (inl dead) =
        subst (Later session s) (sym (cond-true (is_dead_letter stamp.session) s opens dead)) (Later-same session s)
    by (inr plain) = subst (Later session s) (sym (cond-false (is_dead_letter stamp.session) s opens plain))
        (cond_both (is_open stamp.session s.opened) (record s {
          opened = change_session stamp.session (use_number stamp) s.opened;
        }) (open_session s stamp) (Later session s)
        (λ _. Later-with_session session s stamp.session (use_number stamp) (λ one. refl)
        (λ one found. (omega arith, omega arith)))
        (λ closed. Later-opened session s stamp closed (fresh-going s stamp plain fresh)))

pub answer-later : (session : SessionId) (s : Sessions) (stamp : Stamp) (answer : Answer)
    → Later session s (keep_answer stamp answer s)
unfolding keep_answer
answer-later session s stamp answer =
    Later-with_session session s stamp.session (add_answer answer) (λ one. refl)
    (λ one found. (omega arith, omega arith))

pub turn_away-later : (session : SessionId) (s : Sessions) (stamp : Stamp) → Later session s (turn_away s stamp)
unfolding turn_away
turn_away-later session s stamp =
    cond_both (is_ended s stamp.session) s
    (record s { opened = change_session stamp.session (raise_mark stamp) s.opened }) (Later session s)
    (λ _. Later-same session s)
    (λ _. Later-with_session session s stamp.session (raise_mark stamp) (λ one. refl)
    (λ one found. (omega arith, omega arith)))

-- what was admitted, once it is carried out and answered
pub done-later : (session : SessionId) (s : State) (x : Sessions) (stamp : Stamp) (index : Index) (command : Command)
    → IsNumbered session → let a = carry_out index command (record s { sessions = x }) in
    Later session x (keep_answer stamp a.answer a.progress.state.sessions)
done-later session s x stamp index command numbered =
    let a : Acted = carry_out index command (record s { sessions = x }) in
    Later-trans session x a.progress.state.sessions (keep_answer stamp a.answer a.progress.state.sessions)
    (carry_out-later session index command (record s { sessions = x }) numbered)
    (answer-later session a.progress.state.sessions stamp a.answer)

pub next-later : (session : SessionId) (s : State) (entry : Entry) → IsNumbered session
    → Later session s.sessions (next_step s entry).state.sessions
unfolding step
next-later session s entry numbered = by (stamp entry.command)
  where
    index : Index
    index = next_index s

    passes : (g : Gate) (stamp : Stamp) → gate s.sessions stamp ≡ g
        → Later session s.sessions (go_through g index stamp entry.command s).state.sessions
    passes Fresh stamp is =
        let x : Sessions = admit s.sessions stamp in
        Later-trans session s.sessions x _ (admit-later session s.sessions stamp is)
        (done-later session s x stamp index entry.command numbered)
    passes _ stamp is = turn_away-later session s.sessions stamp

    by : (o : Option Stamp) → Later session s.sessions (step_by o index entry.command s).state.sessions
    by None = carry_out-later session index entry.command s numbered
    by (Some stamp) = passes (gate s.sessions stamp) stamp refl

pub after-later : (session : SessionId) (s : State) (entries : List Entry) → IsNumbered session
    → Later session s.sessions (state_after s entries).sessions
after-later session s [] numbered = Later-same session s.sessions
after-later session s (entry ∷ entries) numbered =
    let t : State = (next_step s entry).state in
    Later-trans session s.sessions t.sessions _ (next-later session s entry numbered)
    (after-later session t entries numbered)
