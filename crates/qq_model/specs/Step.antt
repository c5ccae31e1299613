-- What an entry does to a queue.
use Rattle.std.specs.Prelude.{List, [], Option, Some, None, Bool, true, false}
use Rattle.qq_base.specs.declared.ids.Index.{Index}
use Rattle.qq_entry.specs.declared.command.Stamp.{Stamp}
use Rattle.qq_entry.specs.declared.command.Command.{Command}
use Rattle.qq_entry.specs.declared.command.Entry.{Entry}
use Rattle.qq_entry.specs.declared.answer.Answer.{Answer}
use Rattle.qq_entry.specs.declared.answer.Answer.TheVariants as answer
use Rattle.qq_entry.specs.declared.audit.Effect.{Effect}
use Rattle.qq_entry.specs.Command.{stamp}
use Rattle.qq_model.specs.declared.session.Gate.{Gate}
use Rattle.qq_model.specs.declared.session.Gate.TheVariants.{Fresh, Again, Gap, Forgotten, Ended, WindowFull, SessionsFull}
use Rattle.qq_model.specs.State.{State, Sessions}
use Rattle.qq_model.specs.Gate.{gate, admit, turn_away, keep_answer}
use Rattle.qq_model.specs.Changes.{Progress}
use Rattle.qq_model.specs.Commands.{Acted, act}
use Rattle.qq_model.specs.Serving.{check_out_all, drain_after, keep_limits, give_all_dead}

-- the next state, whether the command counted as fresh, its answer, and its effects in order
pub record Step : Type 0 where
  pub state : State
  pub fresh : Bool
  pub answer : Answer
  pub effects : List Effect

-- a phase of a step that gives no answer
abbrev pub map_progress : (Progress → Progress) → Acted → Acted
map_progress phase acted = record acted { progress = phase acted.progress }

-- a command is carried out: its row of the table, and then what follows on each command
unfoldable pub carry_out : Index → Command → State → Acted
carry_out index command s =
    let carried = act index command (record { state = s; effects = [] }) in
    let delivered = map_progress check_out_all carried in
    let drained = drain_after command delivered in
    let limited = map_progress keep_limits drained in
    map_progress give_all_dead limited

-- an entry counts as applied
abbrev pub apply : Index → Sessions → Bool → Acted → Step
apply index sessions fresh acted =
    record {
      state = record (acted.progress.state) { applied = index.0; sessions = sessions };
      fresh = fresh;
      answer = acted.answer;
      effects = acted.progress.effects;
    }

-- the answer of a command that passed the gate is kept
abbrev pub pass_gate : Index → Stamp → Acted → Step
pass_gate index stamp acted = apply index (keep_answer stamp acted.answer acted.progress.state.sessions) true acted

-- a command without a gate
abbrev pub pass_ungated : Index → Acted → Step
pass_ungated index acted = apply index acted.progress.state.sessions true acted

-- of a command that doesn't pass the gate only the low mark is taken over
abbrev pub reject : Index → Stamp → Answer → State → Step
reject index stamp answer s =
    apply index (turn_away s.sessions stamp) false
    (record { progress = record { state = s; effects = [] }; answer = answer })

-- a command that has a stamp, as the gate says
abbrev pub go_through : Gate → Index → Stamp → Command → State → Step
go_through Fresh index stamp command s =
    pass_gate index stamp (carry_out index command (record s { sessions = admit s.sessions stamp }))
go_through (Again before) index stamp command s = reject index stamp before s
go_through (Gap next) index stamp command s = reject index stamp (answer.Gap next) s
go_through Forgotten index stamp command s = reject index stamp answer.Forgotten s
go_through Ended index stamp command s = reject index stamp answer.Ended s
go_through WindowFull index stamp command s = reject index stamp answer.WindowFull s
go_through SessionsFull index stamp command s = reject index stamp answer.SessionsFull s

-- a command goes through the gate of its stamp, or past it where it has none
abbrev pub step_by : Option Stamp → Index → Command → State → Step
step_by None index command s = pass_ungated index (carry_out index command s)
step_by (Some stamp) index command s = go_through (gate s.sessions stamp) index stamp command s

-- one entry: the session gate, the command, and its kept answer
unfoldable pub step : State → Index → Entry → Step
step s index entry = step_by (stamp entry.command) index entry.command s
