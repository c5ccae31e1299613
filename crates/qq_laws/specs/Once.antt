-- Which commands are carried out, and how often.
use Rattle.std.specs.Prelude.{◌≡◌, ◌+◌, ◌<◌, List, [], Bool, true, false, Option, Some, None}
use Rattle.qq_entry.specs.declared.command.Stamp.{Stamp}
use Rattle.qq_entry.specs.declared.command.Entry.{Entry}
use Rattle.qq_entry.specs.declared.answer.Answer.{Answer}
use Rattle.qq_model.specs.declared.session.Gate.{Gate}
use Rattle.qq_model.specs.declared.session.Gate.TheVariants.{Fresh}
use Rattle.qq_model.specs.declared.session.OpenSession.{OpenSession}
use Rattle.qq_model.specs.State.{State, Sessions}
use Rattle.qq_model.specs.Gate.{IsNumbered, is_dead_letter, is_ended, session_of, next_mark, repeat_by, kept_answer, gate, gate_answer, turn_away}
use Rattle.qq_entry.specs.Command.{stamp}
use Rattle.qq_model.specs.Step.{Step}
use Rattle.qq_model.specs.Audit.{next_step, state_after}

abbrev pub is_fresh : Gate → Bool
is_fresh Fresh = true
is_fresh _ = false

-- whether a command is let in: one without a stamp always is
abbrev pub is_let_in : Sessions → Option Stamp → Bool
is_let_in s None = true
is_let_in s (Some stamp) = is_fresh (gate s stamp)

-- A command that isn't let in changes the low mark of its session alone, has no effects, and is answered by the
-- gate, whatever carrying it out would have answered.
pub record IsTurnedAway (s : State) (stamp : Stamp) (made : Step) : Type 0 where
  pub state : made.state ≡ record s { applied = s.applied + 1; sessions = turn_away s.sessions stamp }
  pub answer : (carried_out : Answer) → made.answer ≡ gate_answer (gate s.sessions stamp) carried_out
  pub effects : made.effects ≡ []

-- a number of a session that it has used before
pub record IsRepeat (s : Sessions) (stamp : Stamp) (one : OpenSession) : Type 0 where
  pub numbered : is_dead_letter stamp.session ≡ false
  pub opened : session_of stamp.session s.opened ≡ Some one
  pub below : stamp.seq < one.next

-- a repeat of a session that goes on, above its low mark
pub record IsOpenRepeat (s : Sessions) (stamp : Stamp) (one : OpenSession) : Type 0 where
  pub repeat : IsRepeat s stamp one
  pub going : is_ended s stamp.session ≡ false
  pub above : next_mark stamp one < stamp.seq

-- an entry of the same session with the same number
pub record IsRepeatOf (entry : Entry) (given : Stamp) : Type 0 where
  pub again : Stamp
  pub is : stamp entry.command ≡ Some again
  pub session : again.session ≡ given.session
  pub number : again.seq ≡ given.seq

-- A command of a client, or of a worker that dead-letters at least once, that was carried out at a state isn't
-- carried out again, whatever comes between: with the same number the session's command isn't fresh.
abbrev pub IsCarriedOutOnce : State → Type 0
IsCarriedOutOnce s =
    (first second : Entry) (given : Stamp) (between : List Entry)
    → IsNumbered given.session → stamp first.command ≡ Some given → IsRepeatOf second given
    → (next_step s first).fresh ≡ true
    → (next_step (state_after (next_step s first).state between) second).fresh ≡ false

-- an entry counts as fresh exactly where its command is let in
abbrev pub IsFreshWhereLetIn : State → Entry → Type 0
IsFreshWhereLetIn s entry = (next_step s entry).fresh ≡ is_let_in s.sessions (stamp entry.command)

-- a command whose stamp isn't let in is turned away
abbrev pub TurnsAway : State → Entry → Stamp → Type 0
TurnsAway s entry given =
    stamp entry.command ≡ Some given → is_fresh (gate s.sessions given) ≡ false
    → IsTurnedAway s given (next_step s entry)

-- a repeat isn't let in
abbrev pub TurnsRepeatAway : Sessions → Stamp → OpenSession → Type 0
TurnsRepeatAway s stamp one = IsRepeat s stamp one → is_fresh (gate s stamp) ≡ false

-- a repeat above the low mark is answered by the answer that was kept
abbrev pub AnswersRepeat : Sessions → Stamp → OpenSession → Type 0
AnswersRepeat s stamp one = IsOpenRepeat s stamp one → gate s stamp ≡ repeat_by (kept_answer stamp.seq one)
