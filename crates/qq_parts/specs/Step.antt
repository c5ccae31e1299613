-- What an entry does to the parts of a queue.
use Rattle.std.specs.Prelude.{◌≡◌, ◌+◌, List, [], ◌∷◌, ◌++◌, Option, Some, None, Bool, true, false}
use Rattle.qq_base.specs.declared.ids.Index.{Index}
use Rattle.qq_entry.specs.declared.queue.QueueArgs.{QueueArgs}
use Rattle.qq_entry.specs.declared.command.Stamp.{Stamp}
use Rattle.qq_entry.specs.declared.command.Command.{Command}
use Rattle.qq_entry.specs.declared.command.Entry.{Entry}
use Rattle.qq_entry.specs.declared.answer.Answer.{Answer}
use Rattle.qq_entry.specs.declared.answer.Answer.TheVariants as answer
use Rattle.qq_entry.specs.declared.audit.AuditRow.{AuditRow}
use Rattle.qq_entry.specs.declared.audit.Effect.{Effect}
use Rattle.qq_entry.specs.Command.{stamp}
use Rattle.qq_model.specs.declared.session.Gate.{Gate}
use Rattle.qq_model.specs.declared.session.Gate.TheVariants.{Fresh, Again, Gap, Forgotten, Ended, WindowFull, SessionsFull}
use Rattle.qq_model.specs.State.{Sessions, empty_queue}
use Rattle.qq_model.specs.Gate.{gate, admit, turn_away, keep_answer}
use Rattle.qq_model.specs.Step.{Step}
use Rattle.qq_parts.specs.Parts.{Parts}
use Rattle.qq_parts.specs.Changes.{Holds}
use Rattle.qq_parts.specs.Work.{Work, Answered}
use Rattle.qq_parts.specs.Follows.{parts_check_out_all, parts_keep_limits, parts_give_all_dead}
use Rattle.qq_parts.specs.Commands.{parts_act, parts_drain_after}

-- the next parts, whether the command counted as fresh, its answer, and its effects in order
pub record PartsStep : Type 0 where
  pub parts : Parts
  pub fresh : Bool
  pub answer : Answer
  pub effects : List Effect

-- a phase of a step that gives no answer
abbrev pub map_work : (Work → Work) → Answered → Answered
map_work phase a = record a { work = phase a.work }

-- a command is carried out: its row of the table, and then what follows on each command
unfoldable pub parts_carry_out : Index → Command → Parts → Answered
parts_carry_out index command m =
    let carried = parts_act index command (record { parts = m; effects = [] }) in
    let delivered = map_work parts_check_out_all carried in
    let drained = parts_drain_after command delivered in
    let limited = map_work parts_keep_limits drained in
    map_work parts_give_all_dead limited

-- other sessions
abbrev pub with_sessions : Sessions → Parts → Parts
with_sessions sessions m = record m { rest = record (m.rest) { sessions = sessions } }

-- an entry counts as applied
abbrev pub parts_apply : Index → Sessions → Bool → Answered → PartsStep
parts_apply index sessions fresh a =
    record {
      parts =
          record (a.work.parts) {
            rest = record (a.work.parts.rest) { applied = index.0; sessions = sessions };
          };
      fresh = fresh;
      answer = a.answer;
      effects = a.work.effects;
    }

-- the answer of a command that passed the gate is kept
abbrev pub parts_pass_gate : Index → Stamp → Answered → PartsStep
parts_pass_gate index stamp a =
    parts_apply index (keep_answer stamp a.answer a.work.parts.rest.sessions) true a

-- a command without a gate
abbrev pub parts_pass_ungated : Index → Answered → PartsStep
parts_pass_ungated index a = parts_apply index a.work.parts.rest.sessions true a

-- of a command that doesn't pass the gate only the low mark is taken over
abbrev pub parts_reject : Index → Stamp → Answer → Parts → PartsStep
parts_reject index stamp answer m =
    parts_apply index (turn_away m.rest.sessions stamp) false
    (record { work = record { parts = m; effects = [] }; answer = answer })

-- a command that has a stamp, as the gate says
abbrev pub parts_go_through : Gate → Index → Stamp → Command → Parts → PartsStep
parts_go_through Fresh index stamp command m =
    parts_pass_gate index stamp (parts_carry_out index command (with_sessions (admit m.rest.sessions stamp) m))
parts_go_through (Again before) index stamp command m = parts_reject index stamp before m
parts_go_through (Gap next) index stamp command m = parts_reject index stamp (answer.Gap next) m
parts_go_through Forgotten index stamp command m = parts_reject index stamp answer.Forgotten m
parts_go_through Ended index stamp command m = parts_reject index stamp answer.Ended m
parts_go_through WindowFull index stamp command m = parts_reject index stamp answer.WindowFull m
parts_go_through SessionsFull index stamp command m = parts_reject index stamp answer.SessionsFull m

-- a command goes through the gate of its stamp, or past it where it has none
abbrev pub parts_step_by : Option Stamp → Index → Command → Parts → PartsStep
parts_step_by None index command m = parts_pass_ungated index (parts_carry_out index command m)
parts_step_by (Some stamp) index command m =
    parts_go_through (gate m.rest.sessions stamp) index stamp command m

-- one entry: the session gate, the command, and its kept answer
unfoldable pub parts_step : Parts → Index → Entry → PartsStep
parts_step m index entry = parts_step_by (stamp entry.command) index entry.command m

-- the same outcome, and parts that stand for the state
pub record StepsFor (a : PartsStep) (b : Step) : Type 0 where
  pub holds : Holds a.parts b.state
  pub fresh : b.fresh ≡ a.fresh
  pub answer : b.answer ≡ a.answer
  pub effects : b.effects ≡ a.effects

-- the index of the next entry
abbrev pub parts_next_index : Parts → Index
parts_next_index m = record { 0 = m.rest.applied + 1 }

-- the step of the next entry
abbrev pub parts_next_step : Parts → Entry → PartsStep
parts_next_step m entry = parts_step m (parts_next_index m) entry

-- the parts of a queue to which no entry was applied
abbrev pub new_parts : QueueArgs → Parts
new_parts args = record { rest = empty_queue args; fronts = []; backs = []; served = []; dead = [] }

-- the parts after entries
abbrev pub parts_after : Parts → List Entry → Parts
parts_after m [] = m
parts_after m (entry ∷ entries) = parts_after (parts_next_step m entry).parts entries

-- a row for each entry, in order
abbrev pub parts_audit : Parts → List Entry → List AuditRow
parts_audit m [] = []
parts_audit m (entry ∷ entries) =
    let made = parts_next_step m entry in
    record { index = parts_next_index m; entry = entry; fresh = made.fresh; answer = made.answer }
    ∷ parts_audit made.parts entries

-- the effects of entries, in order
abbrev pub parts_effects : Parts → List Entry → List Effect
parts_effects m [] = []
parts_effects m (entry ∷ entries) =
    (parts_next_step m entry).effects ++ parts_effects (parts_next_step m entry).parts entries
