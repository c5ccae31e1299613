-- What holds of an open session lasts through each entry, if each change of a session keeps it.
use Rattle.std.proofs.Common.{◌≡◌, ℕ, ◌⊎◌, true, false, cond, List, [], ◌∷◌, Option, Some, None, refl, sym, subst, inl, inr, if◌then◌else◌}
use Rattle.std.proofs.lemmas.Bool.{cases_Bool, cond-true, cond-false, cond_both}
use Rattle.qq_base.specs.declared.ids.Index.{Index}
use Rattle.qq_base.specs.declared.ids.SessionId.{SessionId}
use Rattle.qq_entry.specs.declared.command.Stamp.{Stamp}
use Rattle.qq_entry.specs.declared.command.Command.{Command}
use Rattle.qq_entry.specs.declared.command.Entry.{Entry}
use Rattle.qq_entry.specs.declared.answer.Answer.{Answer}
use Rattle.qq_entry.specs.Command.{stamp}
use Rattle.qq_model.specs.declared.session.OpenSession.{OpenSession}
use Rattle.qq_model.specs.declared.session.Gate.{Gate}
use Rattle.qq_model.specs.declared.session.Gate.TheVariants.{Fresh}
use Rattle.qq_model.specs.State.{State, Sessions}
use Rattle.qq_model.specs.Gate.{IsNumbered, is_dead_letter, is_open, is_ended, change_session, raise_mark, use_number, open_session, gate, admit, turn_away, add_answer, keep_answer, set_tag, take_tag}
use Rattle.qq_model.specs.Commands.{Acted}
use Rattle.qq_model.specs.Step.{carry_out, go_through, step_by, step}
use Rattle.qq_model.specs.Audit.{next_index, next_step, state_after}
use Rattle.qq_model.proofs.CarryOut.{carry_out-keeps}
use Rattle.qq_model.proofs.Ending.{LaterBy-ends}
use Rattle.qq_model.proofs.Later.{LaterBy, LaterBy-same, LaterBy-trans, LaterBy-with_session}
use Rattle.qq_model.proofs.LaterSteps.{fresh-going}
use Rattle.qq_model.proofs.Opening.{LaterBy-opened}
use Rattle.qq_model.proofs.SingleChanges.{Acts, KeepsRows}

-- a new tag keeps Q
abbrev pub KeepsTag : (OpenSession → Type 0) → Type 0
KeepsTag Q = (one : OpenSession) (tag : ℕ) → Q one → Q (set_tag tag one)

LaterBy-rows : (Q : OpenSession → Type 0) (session : SessionId) (s : Sessions) (command : Command)
    → KeepsRows command (λ p. LaterBy Q session s p.state.sessions)
LaterBy-rows Q session s command =
    record {
      row = λ p q old new later here moves out why turns. subst (LaterBy Q session s) (sym turns.sessions)
          later;
    }

tag-by : (Q : OpenSession → Type 0) (session : SessionId) (s : Sessions) (id : SessionId) (tag : ℕ) → KeepsTag Q
    → LaterBy Q session s (take_tag id tag s)
unfolding take_tag
tag-by Q session s id tag keeps =
    LaterBy-with_session Q session s id (set_tag tag) (λ one. refl) (λ one own found holds. keeps one tag holds)

LaterBy-acts : (Q : OpenSession → Type 0) (session : SessionId) (s : Sessions) (command : Command) → KeepsTag Q
    → IsNumbered session → Acts command (λ p. LaterBy Q session s p.state.sessions)
LaterBy-acts Q session s command keeps numbered = record {
  rows = LaterBy-rows Q session s command;
  purge = λ p later purges. later;
  attach = λ p term later least greater. later;
  join = λ p id mode later above own. LaterBy-trans Q session s p.state.sessions _ later
      (tag-by Q session p.state.sessions id.session id.tag keeps);
  cancel = λ p id consumer later found. later;
  finish = λ p later. later;
  credit = λ p id consumer credit later found. later;
  turn = λ p id consumer later found. later;
  leave = λ p id later is same none. LaterBy-trans Q session s p.state.sessions _ later
      (LaterBy-ends Q session p.state.sessions id numbered);
}

pub carry_out-by : (Q : OpenSession → Type 0) (session : SessionId) (index : Index) (command : Command) (s : State)
    → KeepsTag Q → IsNumbered session
    → LaterBy Q session s.sessions (carry_out index command s).progress.state.sessions
carry_out-by Q session index command s keeps numbered =
    carry_out-keeps {I = λ p. LaterBy Q session s.sessions p.state.sessions} index command s
    (LaterBy-acts Q session s.sessions command keeps numbered) (λ p row consumer later found next. later)
    (record {
      rows = LaterBy-rows Q session s.sessions command;
      offer = λ p number reason row later here is found may full. later;
      drain = λ p id consumer later found. later;
    })
    (λ p stamp message later is found. later) (LaterBy-same Q session s.sessions)

-- each change of a session keeps Q, where it is that of a stamp of so and so
pub record Lasts (Q : OpenSession → Type 0) : Type 0 where
  pub tag : KeepsTag Q
  pub raise : (one : OpenSession) (stamp : Stamp) → Q one → Q (raise_mark stamp one)
  pub answer : (one : OpenSession) (answer : Answer) → Q one → Q (add_answer answer one)

-- a number that is used keeps Q, where it is one of the session
abbrev pub KeepsUse : (OpenSession → Type 0) → SessionId → Stamp → Type 0
KeepsUse Q session stamp = session ≡ stamp.session → (one : OpenSession) → Q one → Q (use_number stamp one)

pub admit-by : (Q : OpenSession → Type 0) (session : SessionId) (s : Sessions) (stamp : Stamp) → gate s stamp ≡ Fresh
    → KeepsUse Q session stamp → LaterBy Q session s (admit s stamp)
unfolding admit
admit-by Q session s stamp fresh uses = by (cases_Bool (is_dead_letter stamp.session))
  where
    opens : Sessions
    opens =
        if is_open stamp.session s.opened
        then record s { opened = change_session stamp.session (use_number stamp) s.opened } else open_session s stamp

    by : (is_dead_letter stamp.session ≡ true) ⊎ (is_dead_letter stamp.session ≡ false)
        → LaterBy Q session s (cond (is_dead_letter stamp.session) s opens)
    by (inl dead) =
        subst (LaterBy Q session s) (sym (cond-true (is_dead_letter stamp.session) s opens dead))
        (LaterBy-same Q session s)
    by (inr plain) = subst (LaterBy Q session s) (sym (cond-false (is_dead_letter stamp.session) s opens plain))
        (cond_both (is_open stamp.session s.opened) (record s {
          opened = change_session stamp.session (use_number stamp) s.opened;
        }) (open_session s stamp) (LaterBy Q session s)
        (λ _. LaterBy-with_session Q session s stamp.session (use_number stamp) (λ one. refl)
        (λ one own found holds. uses own one holds))
        (λ closed. LaterBy-opened Q session s stamp closed (fresh-going s stamp plain fresh)))

pub answer-by : (Q : OpenSession → Type 0) (session : SessionId) (s : Sessions) (stamp : Stamp) (answer : Answer)
    → Lasts Q → LaterBy Q session s (keep_answer stamp answer s)
unfolding keep_answer
answer-by Q session s stamp answer lasts =
    LaterBy-with_session Q session s stamp.session (add_answer answer) (λ one. refl)
    (λ one own found holds. lasts.answer one answer holds)

pub turn_away-by : (Q : OpenSession → Type 0) (session : SessionId) (s : Sessions) (stamp : Stamp) → Lasts Q
    → LaterBy Q session s (turn_away s stamp)
unfolding turn_away
turn_away-by Q session s stamp lasts =
    cond_both (is_ended s stamp.session) s
    (record s { opened = change_session stamp.session (raise_mark stamp) s.opened }) (LaterBy Q session s)
    (λ _. LaterBy-same Q session s)
    (λ _. LaterBy-with_session Q session s stamp.session (raise_mark stamp) (λ one. refl)
    (λ one own found holds. lasts.raise one stamp holds))

pub next-by : (Q : OpenSession → Type 0) (session : SessionId) (s : State) (entry : Entry) → Lasts Q
    → ((given : Stamp) → stamp entry.command ≡ Some given → gate s.sessions given ≡ Fresh → KeepsUse Q session given)
    → IsNumbered session → LaterBy Q session s.sessions (next_step s entry).state.sessions
unfolding step
next-by Q session s entry lasts uses numbered = by (stamp entry.command) refl
  where
    index : Index
    index = next_index s

    passes : (g : Gate) (given : Stamp) → stamp entry.command ≡ Some given → gate s.sessions given ≡ g
        → LaterBy Q session s.sessions (go_through g index given entry.command s).state.sessions
    passes Fresh given some is =
        let x : Sessions = admit s.sessions given in
        let a : Acted = carry_out index entry.command (record s { sessions = x }) in
        LaterBy-trans Q session s.sessions x _ (admit-by Q session s.sessions given is (uses given some is))
        (LaterBy-trans Q session x a.progress.state.sessions _
        (carry_out-by Q session index entry.command (record s { sessions = x }) lasts.tag numbered)
        (answer-by Q session a.progress.state.sessions given a.answer lasts))
    passes _ given some is = turn_away-by Q session s.sessions given lasts

    by : (o : Option Stamp) → stamp entry.command ≡ o
        → LaterBy Q session s.sessions (step_by o index entry.command s).state.sessions
    by None some = carry_out-by Q session index entry.command s lasts.tag numbered
    by (Some given) some = passes (gate s.sessions given) given some refl

-- over entries, if each number that is used keeps Q
pub after-by : (Q : OpenSession → Type 0) (session : SessionId) (s : State) (entries : List Entry) → Lasts Q
    → ((given : Stamp) → KeepsUse Q session given) → IsNumbered session
    → LaterBy Q session s.sessions (state_after s entries).sessions
after-by Q session s [] lasts uses numbered = LaterBy-same Q session s.sessions
after-by Q session s (entry ∷ entries) lasts uses numbered =
    let t : State = (next_step s entry).state in
    LaterBy-trans Q session s.sessions t.sessions _
    (next-by Q session s entry lasts (λ given some fresh. uses given) numbered)
    (after-by Q session t entries lasts uses numbered)
