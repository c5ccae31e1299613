-- A command that is carried out, phase by phase: what it does to each message, and why.
use Rattle.std.proofs.Common.{◌≡◌, true, false, ◌&&◌, List, [], ◌++◌, Option, Some, None, refl, sym, ap, ◌∙◌, subst}
use Rattle.std.specs.List.{AllZip}
use Rattle.std.proofs.lemmas.Bool.{false≢true, cond_both}
use Rattle.std.proofs.lemmas.List.{append-nil}
use Rattle.qq_base.specs.declared.ids.Index.{Index}
use Rattle.qq_entry.specs.Command.{stamp, consumer_id}
use Rattle.qq_entry.specs.declared.answer.Answer.{Answer}
use Rattle.qq_entry.specs.declared.answer.Full.{Full}
use Rattle.qq_entry.specs.declared.command.Command.{Command}
use Rattle.qq_entry.specs.declared.command.Command.TheVariants.{Credit, Enqueue}
use Rattle.qq_entry.specs.declared.command.Entry.{Entry}
use Rattle.qq_entry.specs.declared.command.Stamp.{Stamp}
use Rattle.qq_entry.specs.declared.message.Message.{Message}
use Rattle.qq_entry.specs.declared.queue.QueueArgs.{QueueArgs}
use Rattle.qq_model.specs.declared.place.Row.{Row}
use Rattle.qq_model.specs.declared.consumer.Consumer.{Consumer}
use Rattle.qq_model.specs.declared.session.Gate.{Gate}
use Rattle.qq_model.specs.declared.session.Gate.TheVariants.{Fresh}
use Rattle.qq_model.specs.State.{State, Sessions, empty_queue}
use Rattle.qq_model.specs.Gate.{gate, admit}
use Rattle.qq_model.specs.Limits.{publish_limit}
use Rattle.qq_model.specs.Changes.{Progress, consumer_of}
use Rattle.qq_model.specs.Commands.{Acted, act, enqueue_by, enqueue}
use Rattle.qq_model.specs.Serving.{check_out_all, drain_by, is_credited, drain_after, keep_limits}
use Rattle.qq_model.specs.Reasons.{is_enqueue}
use Rattle.qq_model.specs.Step.{Step, map_progress, carry_out, go_through, step_by, step}
use Rattle.qq_model.specs.Audit.{next_index, next_step, state_after}
use Rattle.qq_model.proofs.ActKeeps.{act-keeps}
use Rattle.qq_model.proofs.CarryOut.{check_out_all-keeps}
use Rattle.qq_model.proofs.Indices.{Rises, indices}
use Rattle.qq_model.proofs.InOrder.{indices-put}
use Rattle.qq_model.proofs.Drawn.{Drawn}
use Rattle.qq_model.specs.Sound.{front_number, back_number}
use Rattle.qq_model.proofs.Numbers.{Numbered, Numbered-acts, Numbered-arrives, Numbered-delivers}
use Rattle.qq_model.proofs.Soundness.{SoundRows, rows_at, rows-kept}
use Rattle.qq_laws.specs.Published.{message_in, is_confirmed, new_message}
use Rattle.qq_laws.specs.Rows.{new_rows}
use Rattle.qq_laws.specs.Explains.{ActsOn, IsServed, IsLimited, MovesForReasons}
use Rattle.qq_laws.specs.Explains.ActsOn.{Stays}
use Rattle.qq_laws.proofs.Explained.{act-account, checked-served, zip-itself}
use Rattle.qq_laws.proofs.KeptLemmas.{checked-args, drain-rows, give-same, keep_limits-indices}
use Rattle.qq_laws.proofs.LimitLemmas.{limited}

-- a command that begins with these sessions, as it leaves the queue by itself
abbrev pub acted_with : State → Sessions → Index → Command → Acted
acted_with s x index command = act index command (record { state = record s { sessions = x }; effects = [] })

-- and as the deliveries leave it
abbrev pub served_with : State → Sessions → Index → Command → Progress
served_with s x index command = check_out_all (acted_with s x index command).progress

pub record Carried (s : State) (x : Sessions) (index : Index) (command : Command) : Type 0 where
  pub acts : AllZip (ActsOn s command)
      (s.rows ++ new_rows s index (new_message true
      (carry_out index command (record s { sessions = x })).answer command))
      (acted_with s x index command).progress.state.rows
  pub serves : AllZip IsServed (acted_with s x index command).progress.state.rows
      (served_with s x index command).state.rows
  pub limits : AllZip (IsLimited s.args (served_with s x index command).state.rows)
      (served_with s x index command).state.rows
      (carry_out index command (record s { sessions = x })).progress.state.rows

-- The command itself
other-acts : (s : State) (x : Sessions) (index : Index) (command : Command) → is_enqueue command ≡ false
    → message_in command ≡ None → Rises (indices s.rows)
    → AllZip (ActsOn s command)
    (s.rows ++ new_rows s index (new_message true (carry_out index command (record s { sessions = x })).answer
    command))
    (acted_with s x index command).progress.state.rows
other-acts s x index command not_enqueue none rising =
    let a = carry_out index command (record s { sessions = x }) in
    let nothing : new_message true a.answer command ≡ None =
    cond_both (true && is_confirmed a.answer) (message_in command) None (λ (o : Option Message). o ≡ None) (λ _. none)
    (λ _. refl) in
    subst (λ (o : Option Message). AllZip (ActsOn s command) (s.rows ++ new_rows s index o)
    (acted_with s x index command).progress.state.rows) (sym nothing)
    (subst (λ (rows : List Row). AllZip (ActsOn s command) rows (acted_with s x index command).progress.state.rows)
    (sym (append-nil s.rows)) (act-account s x index command not_enqueue rising).rows)

carried-acts : (s : State) (x : Sessions) (index : Index) (command : Command) → Rises (indices s.rows)
    → AllZip (ActsOn s command)
    (s.rows ++ new_rows s index (new_message true (carry_out index command (record s { sessions = x })).answer
    command))
    (acted_with s x index command).progress.state.rows
unfolding carry_out act drain_after enqueue
carried-acts s x index (Enqueue given origin message) rising = by (publish_limit s.args s.rows)
  where
    start : Progress
    start = record { state = record s { sessions = x }; effects = [] }

    by : (o : Option Full) → let a = enqueue_by o index message start in
        AllZip (ActsOn s (Enqueue given origin message))
        (s.rows ++ new_rows s index (new_message true a.answer (Enqueue given origin message))) a.progress.state.rows
    by None = zip-itself (ActsOn s (Enqueue given origin message)) _ (λ row. Stays refl)
    by (Some full) =
        subst (λ (rows : List Row). AllZip (ActsOn s (Enqueue given origin message)) rows s.rows)
        (sym (append-nil s.rows)) (zip-itself (ActsOn s (Enqueue given origin message)) s.rows (λ row. Stays refl))
carried-acts s x index command rising = other-acts s x index command refl refl rising

-- What follows on it
pub drain-args : (command : Command) (a : Acted)
    → (drain_after command a).progress.state.args ≡ a.progress.state.args
unfolding drain_after
drain-args (Credit given tag count credit wanted) a =
    cond_both (wanted && is_credited a.answer)
    (drain_by (consumer_of (consumer_id given tag) a.progress.state.consumers) a.answer a.progress) a
    (λ (b : Acted). b.progress.state.args ≡ a.progress.state.args)
    (λ _. by (consumer_of (consumer_id given tag) a.progress.state.consumers)) (λ _. refl)
  where
    by : (o : Option Consumer) → (drain_by o a.answer a.progress).progress.state.args ≡ a.progress.state.args
    by None = refl
    by (Some consumer) = refl
drain-args _ a = refl

checked-indices : (p : Progress) → indices (check_out_all p).state.rows ≡ indices p.state.rows
checked-indices p =
    check_out_all-keeps (λ q. indices q.state.rows ≡ indices p.state.rows)
    (λ q row consumer same found next. indices-put _ q.state.rows ∙ same) p refl

served-numbered : (s : State) (x : Sessions) (index : Index) (command : Command) → Numbered s
    → Numbered (served_with s x index command).state
served-numbered s x index command it =
    check_out_all-keeps (λ p. Numbered p.state) Numbered-delivers (acted_with s x index command).progress
    (act-keeps {I = λ p. Numbered p.state} index command (Numbered-acts command) (Numbered-arrives index command)
    (record { state = record s { sessions = x }; effects = [] })
    (record { fronts = it.fronts; backs = it.backs; deads = it.deads; given = it.given }))

carried-follows : (s : State) (x : Sessions) (index : Index) (command : Command) → Numbered s
    → Rises (indices (carry_out index command (record s { sessions = x })).progress.state.rows)
    → AllZip IsServed (acted_with s x index command).progress.state.rows (served_with s x index command).state.rows
    × AllZip (IsLimited s.args (served_with s x index command).state.rows)
    (served_with s x index command).state.rows
    (carry_out index command (record s { sessions = x })).progress.state.rows
unfolding carry_out
carried-follows s x index command numbered rising =
    let acted : Acted = acted_with s x index command in
    let served : Progress = served_with s x index command in
    let a : Acted = drain_after command (map_progress check_out_all acted) in
    let rows : a.progress.state.rows ≡ served.state.rows = drain-rows command (map_progress check_out_all acted) in
    let args : a.progress.state.args ≡ s.args =
    drain-args command (map_progress check_out_all acted) ∙ checked-args index command (record s { sessions = x }) in
    let same = give-same (keep_limits a.progress) in
    let now : Rises (indices a.progress.state.rows) =
    subst Rises (ap indices same.rows ∙ keep_limits-indices a.progress) rising in
    let first : Rises (indices acted.progress.state.rows) =
    subst Rises (ap indices rows ∙ checked-indices acted.progress) now in
    let drawn = served-numbered s x index command numbered in
    let limits : AllZip (IsLimited a.progress.state.args a.progress.state.rows) a.progress.state.rows
    (keep_limits a.progress).state.rows =
    limited a.progress served.state.returns served.state.orders now
    (subst (Drawn front_number served.state.returns) (sym rows) drawn.fronts)
    (subst (Drawn back_number served.state.orders) (sym rows) drawn.backs) in (
      checked-served acted.progress first,
      subst
          (λ (final : List Row). AllZip (IsLimited s.args served.state.rows) served.state.rows final) (sym same.rows)
          (subst (λ (v : List Row). AllZip (IsLimited s.args v) v (keep_limits a.progress).state.rows) rows
          (subst (λ (g : QueueArgs). AllZip (IsLimited g a.progress.state.rows) a.progress.state.rows
          (keep_limits a.progress).state.rows) args limits)),
    )

pub carried : (s : State) (x : Sessions) (command : Command) → SoundRows s → Carried s x (next_index s) command
carried s x command sound =
    let done = (rows-kept s).fresh command x x sound in
    let follows = carried-follows s x (next_index s) command sound.numbered done.ordered.rising in record {
      acts = carried-acts s x (next_index s) command sound.ordered.rising;
      serves = follows.0;
      limits = follows.1;
    }

-- An entry that is carried out
pub record IsCarried (s : State) (entry : Entry) (made : Step) : Type 0 where
  pub sessions : Sessions
  pub answer : made.answer ≡ (carry_out (next_index s) entry.command (record s { sessions = sessions })).answer
  pub effects : made.effects
      ≡ (carry_out (next_index s) entry.command (record s { sessions = sessions })).progress.effects
  pub rows : made.state.rows
      ≡ (carry_out (next_index s) entry.command (record s { sessions = sessions })).progress.state.rows
  pub messages : made.state.messages
      ≡ (carry_out (next_index s) entry.command (record s { sessions = sessions })).progress.state.messages
  pub given : made.state.given
      ≡ (carry_out (next_index s) entry.command (record s { sessions = sessions })).progress.state.given
  pub attached : made.state.attached
      ≡ (carry_out (next_index s) entry.command (record s { sessions = sessions })).progress.state.attached
  pub args : made.state.args
      ≡ (carry_out (next_index s) entry.command (record s { sessions = sessions })).progress.state.args

pub is_carried : (s : State) (entry : Entry) → (next_step s entry).fresh ≡ true
    → IsCarried s entry (next_step s entry)
unfolding step
is_carried s entry = by (stamp entry.command)
  where
    done : (x : Sessions) (made : Step) → let a = carry_out (next_index s) entry.command (record s { sessions = x }) in
        made.answer ≡ a.answer → made.effects ≡ a.progress.effects → made.state.rows ≡ a.progress.state.rows
        → made.state.messages ≡ a.progress.state.messages → made.state.given ≡ a.progress.state.given
        → made.state.attached ≡ a.progress.state.attached → made.state.args ≡ a.progress.state.args
        → IsCarried s entry made
    done x made answer effects rows messages given attached args =
        record {
          sessions = x;
          answer = answer;
          effects = effects;
          rows = rows;
          messages = messages;
          given = given;
          attached = attached;
          args = args;
        }

    passes : (g : Gate) (given : Stamp) → (go_through g (next_index s) given entry.command s).fresh ≡ true
        → IsCarried s entry (go_through g (next_index s) given entry.command s)
    passes Fresh given fresh = done (admit s.sessions given) _ refl refl refl refl refl refl refl
    passes _ given fresh = absurd (false≢true fresh)

    by : (o : Option Stamp) → (step_by o (next_index s) entry.command s).fresh ≡ true
        → IsCarried s entry (step_by o (next_index s) entry.command s)
    by None fresh = done s.sessions _ refl refl refl refl refl refl refl
    by (Some given) fresh = passes (gate s.sessions given) given fresh

-- and one that isn't
pub record IsStale (s : State) (made : Step) : Type 0 where
  pub rows : made.state.rows ≡ s.rows
  pub messages : made.state.messages ≡ s.messages
  pub args : made.state.args ≡ s.args
  pub attached : made.state.attached ≡ s.attached
  pub given : made.state.given ≡ s.given
  pub effects : made.effects ≡ []

pub is_stale : (s : State) (entry : Entry) → (next_step s entry).fresh ≡ false → IsStale s (next_step s entry)
unfolding step
is_stale s entry = by (stamp entry.command)
  where
    passes : (g : Gate) (given : Stamp) → let made = go_through g (next_index s) given entry.command s in
        made.fresh ≡ false → IsStale s made
    passes Fresh given fresh = absurd (false≢true (sym fresh))
    passes _ given fresh = record { rows = refl; messages = refl; args = refl; attached = refl; given = refl; effects = refl }

    by : (o : Option Stamp) → let made = step_by o (next_index s) entry.command s in
        made.fresh ≡ false → IsStale s made
    by None fresh = absurd (false≢true (sym fresh))
    by (Some given) fresh = passes (gate s.sessions given) given fresh

pub moves_for_reasons : (args : QueueArgs) (before : List Entry) (entry : Entry)
    → MovesForReasons (state_after (empty_queue args) before) entry
moves_for_reasons args before entry fresh =
    let s = state_after (empty_queue args) before in
    let made = next_step s entry in
    let is = is_carried s entry fresh in
    let phases = carried s is.sessions entry.command (rows_at args before) in
    let a = carry_out (next_index s) entry.command (record s { sessions = is.sessions }) in
    record {
      acted = (acted_with s is.sessions (next_index s) entry.command).progress.state.rows;
      served = (served_with s is.sessions (next_index s) entry.command).state.rows;
      acts =
          subst (λ b. AllZip (ActsOn s entry.command)
          (s.rows ++ new_rows s (next_index s) (new_message b made.answer entry.command))
          (acted_with s is.sessions (next_index s) entry.command).progress.state.rows) (sym fresh)
          (subst (λ (said : Answer). AllZip (ActsOn s entry.command)
          (s.rows ++ new_rows s (next_index s) (new_message true said entry.command))
          (acted_with s is.sessions (next_index s) entry.command).progress.state.rows) (sym is.answer) phases.acts);
      serves = phases.serves;
      limits =
          subst (AllZip (IsLimited s.args (served_with s is.sessions (next_index s) entry.command).state.rows)
          (served_with s is.sessions (next_index s) entry.command).state.rows) (sym is.rows) phases.limits;
    }
