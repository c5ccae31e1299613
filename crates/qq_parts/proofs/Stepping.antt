-- A step of the parts is a step of the queue, and so are all steps from the new queue on.
use Rattle.std.proofs.Common.{◌≡◌, ◌+◌, ◌<◌, ◌≤◌, Bool, true, false, List, [], ◌∷◌, ◌++◌, Option, Some, None, refl, sym, ap, ◌∙◌, subst, arith}
use Rattle.std.specs.List.{AllByRecursion}
use Rattle.std.proofs.lemmas.List.Elements.{recursion_from_All}
use Rattle.qq_base.proofs.Lists.{AllByRecursion-weaker}
use Rattle.qq_base.specs.declared.ids.Index.{Index}
use Rattle.qq_entry.specs.declared.queue.QueueArgs.{QueueArgs}
use Rattle.qq_entry.specs.declared.command.Stamp.{Stamp}
use Rattle.qq_entry.specs.declared.command.Command.{Command}
use Rattle.qq_entry.specs.declared.command.Entry.{Entry}
use Rattle.qq_entry.specs.declared.answer.Answer.{Answer}
use Rattle.qq_entry.specs.declared.answer.Answer.TheVariants as answer
use Rattle.qq_entry.specs.declared.audit.AuditRow.{AuditRow}
use Rattle.qq_entry.specs.declared.audit.Effect.{Effect}
use Rattle.qq_entry.specs.Command.{stamp}
use Rattle.qq_entry.specs.Range.{IsCommand, IsInRange}
use Rattle.qq_model.specs.declared.place.Row.{Row}
use Rattle.qq_model.specs.declared.session.Gate.{Gate}
use Rattle.qq_model.specs.declared.session.Gate.TheVariants.{Fresh, Again, Gap, Forgotten, Ended, WindowFull, SessionsFull}
use Rattle.qq_model.specs.State.{State, Sessions, empty_queue}
use Rattle.qq_model.specs.Gate.{gate, admit, turn_away, keep_answer}
use Rattle.qq_model.specs.Changes.{Progress}
use Rattle.qq_model.specs.Commands.{Acted, act}
use Rattle.qq_model.specs.Serving.{check_out_all, drain_after, keep_limits, give_all_dead}
use Rattle.qq_model.specs.Step.{Step, map_progress, carry_out, apply, reject, go_through, step_by, step}
use Rattle.qq_model.specs.Sound.{IsSound}
use Rattle.qq_model.specs.Audit.{next_index, next_step, audit_of, state_after, effects_of}
use Rattle.qq_model.proofs.Soundness.{is_sound}
use Rattle.qq_parts.specs.Perm.Perm.{done}
use Rattle.qq_parts.specs.Parts.{Parts, Stands, IsWhole}
use Rattle.qq_parts.specs.Changes.{Holds}
use Rattle.qq_parts.specs.Work.{Work, Answered, StandsFor, AnswersFor}
use Rattle.qq_parts.specs.Follows.{parts_check_out_all, parts_keep_limits, parts_give_all_dead}
use Rattle.qq_parts.specs.Commands.{IsBehind, HasFreeId, parts_act, parts_drain_after}
use Rattle.qq_parts.specs.Step.{PartsStep, map_work, parts_carry_out, with_sessions, parts_apply, parts_reject, parts_go_through, parts_step_by, parts_step, StepsFor, parts_next_index, parts_next_step, new_parts, parts_after, parts_audit, parts_effects}
use Rattle.qq_parts.proofs.Works.{whole-rest}
use Rattle.qq_parts.proofs.Following.{checks_out, keeps_limits, gives_all}
use Rattle.qq_parts.proofs.Commanding.{acts, drains-after}
use Rattle.qq_parts.proofs.Joining.{has-free_id, unstamped-free}

-- A command is carried out ----------------------------------------------------------------------------

pub phase : (f : Work → Work) (g : Progress → Progress)
    → ((t : Work) (p : Progress) → StandsFor t p → StandsFor (f t) (g p)) → (a : Answered) (b : Acted)
    → AnswersFor a b → AnswersFor (map_work f a) (map_progress g b)
phase f g goes a b it = record { work = goes a.work b.progress it.work; answer = it.answer }

pub carries : (index : Index) (command : Command) (m : Parts) (s : State) → Holds m s → IsBehind index s
    → HasFreeId command m → AnswersFor (parts_carry_out index command m) (carry_out index command s)
unfolding carry_out parts_carry_out
carries index command m s it behind free =
    let t : Work = record { parts = m; effects = [] } in
    let p : Progress = record { state = s; effects = [] } in
    let a : Answered = parts_act index command t in
    let b : Acted = act index command p in
    let acted : AnswersFor a b =
    acts index command t p (record { stands = it.stands; whole = it.whole; effects = refl }) behind free in
    let delivered : AnswersFor (map_work parts_check_out_all a) (map_progress check_out_all b) =
    phase parts_check_out_all check_out_all checks_out a b acted in
    let drained =
    drains-after command (map_work parts_check_out_all a) (map_progress check_out_all b) delivered in
    let limited =
    phase parts_keep_limits keep_limits keeps_limits (parts_drain_after command (map_work parts_check_out_all a))
    (drain_after command (map_progress check_out_all b)) drained in
    phase parts_give_all_dead give_all_dead gives_all
    (map_work parts_keep_limits (parts_drain_after command (map_work parts_check_out_all a)))
    (map_progress keep_limits (drain_after command (map_progress check_out_all b))) limited

-- The gate --------------------------------------------------------------------------------------------

applies : (index : Index) (sessions other : Sessions) (fresh : Bool) (a : Answered) (b : Acted) → AnswersFor a b
    → other ≡ sessions → StepsFor (parts_apply index sessions fresh a) (apply index other fresh b)
applies index sessions other fresh a b it same =
    let m : Parts = a.work.parts in
    let s : State = b.progress.state in
    subst (λ (these : Sessions). StepsFor (parts_apply index sessions fresh a) (apply index these fresh b)) (sym same)
    (record {
      holds = record {
        stands = record {
          rest = ap (λ (t : State). record t { applied = index.0; sessions = sessions }) it.work.stands.rest;
          perm = it.work.stands.perm;
          rising = it.work.stands.rising;
          long = it.work.stands.long;
        };
        whole =
            whole-rest m (record (m.rest) { applied = index.0; sessions = sessions }) refl refl refl it.work.whole;
      };
      fresh = refl;
      answer = it.answer;
      effects = it.work.effects;
    })

rejects : (index : Index) (by : Stamp) (said : Answer) (m : Parts) (s : State) → Holds m s
    → StepsFor (parts_reject index by said m) (reject index by said s)
rejects index by said m s it =
    applies index (turn_away m.rest.sessions by) (turn_away s.sessions by) false
    (record { work = record { parts = m; effects = [] }; answer = said })
    (record { progress = record { state = s; effects = [] }; answer = said })
    (record { work = record { stands = it.stands; whole = it.whole; effects = refl }; answer = refl })
    (ap (λ (t : State). turn_away t.sessions by) it.stands.rest)

pub admits : (by : Stamp) (m : Parts) (s : State) → Holds m s
    → Holds (with_sessions (admit m.rest.sessions by) m) (record s { sessions = admit s.sessions by })
admits by m s it = record {
  stands = record {
    rest = ap (λ (t : State). record t { sessions = admit t.sessions by }) it.stands.rest;
    perm = it.stands.perm;
    rising = it.stands.rising;
    long = it.stands.long;
  };
  whole = whole-rest m (with_sessions (admit m.rest.sessions by) m).rest refl refl refl it.whole;
}

passes : (index : Index) (by : Stamp) (command : Command) (m : Parts) (s : State) → Holds m s → IsBehind index s
    → HasFreeId command (with_sessions (admit m.rest.sessions by) m)
    → StepsFor (parts_go_through Fresh index by command m) (go_through Fresh index by command s)
passes index by command m s it behind free =
    let n : Parts = with_sessions (admit m.rest.sessions by) m in
    let u : State = record s { sessions = admit s.sessions by } in
    let a : Answered = parts_carry_out index command n in
    let b : Acted = carry_out index command u in
    let made : AnswersFor a b = carries index command n u (admits by m s it) behind free in
    applies index (keep_answer by a.answer a.work.parts.rest.sessions)
    (keep_answer by b.answer b.progress.state.sessions) true a b made
    (ap (λ (said : Answer). keep_answer by said b.progress.state.sessions) made.answer
    ∙ ap (λ (t : State). keep_answer by a.answer t.sessions) made.work.stands.rest)

goes_through : (g : Gate) (index : Index) (by : Stamp) (command : Command) (m : Parts) (s : State) → Holds m s
    → IsBehind index s → (g ≡ Fresh → HasFreeId command (with_sessions (admit m.rest.sessions by) m))
    → StepsFor (parts_go_through g index by command m) (go_through g index by command s)
goes_through Fresh index by command m s it behind free = passes index by command m s it behind (free refl)
goes_through (Again before) index by command m s it behind free = rejects index by before m s it
goes_through (Gap next) index by command m s it behind free = rejects index by (answer.Gap next) m s it
goes_through Forgotten index by command m s it behind free = rejects index by answer.Forgotten m s it
goes_through Ended index by command m s it behind free = rejects index by answer.Ended m s it
goes_through WindowFull index by command m s it behind free = rejects index by answer.WindowFull m s it
goes_through SessionsFull index by command m s it behind free = rejects index by answer.SessionsFull m s it

steps-by : (o : Option Stamp) (index : Index) (command : Command) (m : Parts) (s : State) → stamp command ≡ o
    → Holds m s → IsBehind index s → IsCommand command → IsSound s
    → StepsFor (parts_step_by o index command m) (step_by o index command s)
steps-by None index command m s is it behind range sound =
    let a : Answered = parts_carry_out index command m in
    let b : Acted = carry_out index command s in
    let made : AnswersFor a b = carries index command m s it behind (unstamped-free command m is) in
    applies index a.work.parts.rest.sessions b.progress.state.sessions true a b made
    (ap (λ (t : State). t.sessions) made.work.stands.rest)
steps-by (Some by) index command m s is it behind range sound =
    subst (λ (g : Gate). StepsFor (parts_go_through g index by command m)
    (go_through (gate s.sessions by) index by command s)) (ap (λ (t : State). gate t.sessions by) it.stands.rest)
    (goes_through (gate s.sessions by) index by command m s it behind
    (λ fresh. has-free_id command by m s is range sound it.stands fresh))

-- the next entry is behind all that have arrived
pub is_behind : (s : State) → IsSound s → IsBehind (next_index s) s
is_behind s sound =
    AllByRecursion-weaker (λ (row : Row). row.index.0 ≤ s.applied) (λ (row : Row). row.index.0 < s.applied + 1)
    (λ row le. omega arith) s.rows
    (recursion_from_All (λ (row : Row). row.index.0 ≤ s.applied) s.rows sound.messages.applied)

pub steps : (m : Parts) (s : State) (entry : Entry) → IsSound s → Stands m s → IsWhole m → IsInRange entry
    → StepsFor (parts_next_step m entry) (next_step s entry)
unfolding step parts_step
steps m s entry sound stands whole range =
    let same : next_index s ≡ parts_next_index m =
    ap (λ (t : State). let index : Index = record { 0 = t.applied + 1 } in index) stands.rest in
    subst (λ (index : Index). StepsFor (parts_step m index entry) (step s (next_index s) entry)) same
    (steps-by (stamp entry.command) (next_index s) entry.command m s refl (record { stands = stands; whole = whole })
    (is_behind s sound) range.command sound)

-- All steps -------------------------------------------------------------------------------------------

pub new-holds : (args : QueueArgs) → Holds (new_parts args) (empty_queue args)
new-holds args = record {
  stands = record { rest = refl; perm = done; rising = tt; long = refl };
  whole = record {
    fronts = record { rising = tt; each = tt };
    backs = record { rising = tt; each = tt };
    served = tt;
    apart = tt;
    dead = record { rising = tt; each = tt };
  };
}

-- the state after one entry more
pub after-one : (s : State) (entries : List Entry) (entry : Entry)
    → state_after s (entries ++ entry ∷ []) ≡ (next_step (state_after s entries) entry).state
after-one s [] entry = refl
after-one s (first ∷ entries) entry = after-one (next_step s first).state entries entry

-- the same of parts that stand for a state
pub record Runs (m : Parts) (s : State) (entries : List Entry) : Type 0 where
  pub holds : Holds (parts_after m entries) (state_after s entries)
  pub audit : audit_of s entries ≡ parts_audit m entries
  pub effects : effects_of s entries ≡ parts_effects m entries

pub runs-from : (args : QueueArgs) (before entries : List Entry) (m : Parts) (s : State)
    → state_after (empty_queue args) before ≡ s → Holds m s → AllByRecursion IsInRange entries → Runs m s entries
runs-from args before [] m s at it range = record { holds = it; audit = refl; effects = refl }
runs-from args before (entry ∷ entries) m s at it range =
    let sound : IsSound s = subst IsSound at (is_sound args before) in
    let a : PartsStep = parts_next_step m entry in
    let b : Step = next_step s entry in
    let made : StepsFor a b = steps m s entry sound it.stands it.whole range.0 in
    let next : state_after (empty_queue args) (before ++ entry ∷ []) ≡ b.state =
    after-one (empty_queue args) before entry ∙ ap (λ (t : State). (next_step t entry).state) at in
    let rest : Runs a.parts b.state entries =
    runs-from args (before ++ entry ∷ []) entries a.parts b.state next made.holds range.1 in
    record {
      holds = rest.holds;
      audit =
          ap (λ (index : Index). record { index = index; entry = entry; fresh = b.fresh; answer = b.answer }
          ∷ audit_of b.state entries)
          (ap (λ (t : State). let index : Index = record { 0 = t.applied + 1 } in index) it.stands.rest)
          ∙ ap (λ (fresh : Bool). record {
            index = parts_next_index m;
            entry = entry;
            fresh = fresh;
            answer = b.answer;
          } ∷ audit_of b.state entries) made.fresh
          ∙ ap (λ (said : Answer). record {
            index = parts_next_index m;
            entry = entry;
            fresh = a.fresh;
            answer = said;
          } ∷ audit_of b.state entries) made.answer
          ∙ ap (λ (rows : List AuditRow). record {
            index = parts_next_index m;
            entry = entry;
            fresh = a.fresh;
            answer = a.answer;
          } ∷ rows) rest.audit;
      effects =
          ap (λ (effects : List Effect). effects ++ effects_of b.state entries) made.effects
          ∙ ap (λ (effects : List Effect). a.effects ++ effects) rest.effects;
    }
